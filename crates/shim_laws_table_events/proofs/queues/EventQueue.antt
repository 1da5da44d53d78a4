-- The list of numbers at which events may be enabled stays one.
use Rattle.std.proofs.Common.{◌≡◌, ◌⊎◌, ℕ, inl, inr, refl, sym, ap, subst, ◌∙◌}
use Rattle.shim_base.specs.Paths.{Path, Channel}
use Rattle.shim_local.specs.Process.{Ops, StopView, AtQuiet, AtNext, AtPut, AtFork, AtFinish, AtThrow, AtTrap}
use Rattle.shim_local.specs.Laws.{LocalLaws}
use Rattle.shim_semantics.specs.Trees.{Event, Own, Meet, Poison, Close, End}
use Rattle.shim_semantics.proofs.HowMany.{clash}
use Rattle.shim_laws_table.specs.NodeStatus.{ProcessStatus, lives, forks}
use Rattle.shim_laws_table.proofs.OneChange.{one_state}
use Rattle.shim_laws_table.proofs.SameTrees.{same_or_not}
use Rattle.shim_laws_table_events.specs.keeping.Tables.{TableView, HasProcessState, views}
use Rattle.shim_laws_table.specs.Enabled.{at_step, at_end, at_close, at_home, at_child}
use Rattle.shim_laws_table_events.specs.queues.Requeueing.{IsAtNumber}
use Rattle.shim_laws_table_events.specs.queues.RecordDecisions.{IsQuietStepAt}
use Rattle.shim_laws_table_events.specs.queues.EventQueue.{is_listed, QueueStaysComplete}
use Rattle.shim_laws_table_events.proofs.queues.Idle.{record_decides}
use Rattle.shim_laws_table_events.proofs.queues.Requeueing.{event_has_one_owner}

no_own_end : (p q : Path) → End p ≡ Own q → ⊥
no_own_end p q e = absurd cc

no_own_close : (p q : Path) → Close p ≡ Own q → ⊥
no_own_close p q e = absurd cc

no_own_meet : (c : Channel) (q : Path) → Meet c ≡ Own q → ⊥
no_own_meet c q e = absurd cc

no_own_poison : (p : Path) (c : Channel) (q : Path) → Poison p c ≡ Own q → ⊥
no_own_poison p c q e = absurd cc

module _ {S : Type 0} (o : Ops S) where
  record InUse (v : TableView S) (i : ℕ) : Type 0 where
    first : ℕ
    process : S
    status_is : ProcessStatus
    has : HasProcessState v i first process status_is

  -- the record at which an event is looked for
  in_use : {v : TableView S} {e : Event} {i : ℕ} → IsAtNumber o v e i → InUse v i
  in_use (at_step i f l p has path) = record { first = f; process = l; status_is = lives; has = has }
  in_use (at_end i f l p has path) = record { first = f; process = l; status_is = lives; has = has }
  in_use (at_close i f n l p has path) = record { first = f; process = l; status_is = forks n; has = has }
  in_use (at_home i f l k c has goes home) = record { first = f; process = l; status_is = k; has = has }
  in_use (at_child i g n b f l k x p c has less child path) = record { first = g; process = l; status_is = forks n; has = has }

  -- an event is a quiet step, or isn't one
  module _ (v : TableView S) where
    a_step : (i f : ℕ) (l : S) (p : Path) → HasProcessState v i f l lives → o.path l ≡ p → (s : StopView) → o.stop l ≡ s → IsQuietStepAt o v i (Own p) ⊎ (IsQuietStepAt o v i (Own p) → ⊥)
    a_step i f l p has path s e = on s e
      where
        other : (x : StopView) → o.stop l ≡ x → (x ≡ AtQuiet → ⊥) → IsQuietStepAt o v i (Own p) → ⊥
        other x e no_quiet w = no_quiet (sym e ∙ (ap o.stop (one_state v.states (views v) i f w.first l w.process lives lives has w.has) ∙ w.stop_is))

        on : (x : StopView) → o.stop l ≡ x → IsQuietStepAt o v i (Own p) ⊎ (IsQuietStepAt o v i (Own p) → ⊥)
        on AtQuiet e = inl (record { first = f; process = l; has = has; stop_is = e; is = ap Own (sym path) })
        on AtPut e = inr (other AtPut e (λ z. absurd cc))
        on AtFork e = inr (other AtFork e (λ z. absurd cc))
        on AtFinish e = inr (other AtFinish e (λ z. absurd cc))
        on (AtNext d) e = inr (other (AtNext d) e (λ z. absurd cc))
        on (AtThrow x) e = inr (other (AtThrow x) e (λ z. absurd cc))
        on (AtTrap a b) e = inr (other (AtTrap a b) e (λ z. absurd cc))

    quiet_or_not : {e : Event} {i : ℕ} → IsAtNumber o v e i → IsQuietStepAt o v i e ⊎ (IsQuietStepAt o v i e → ⊥)
    quiet_or_not (at_step i f l p has path) = a_step i f l p has path (o.stop l) refl
    quiet_or_not (at_end i f l p has path) = inr (λ w. no_own_end p (o.path w.process) w.is)
    quiet_or_not (at_close i f n l p has path) = inr (λ w. no_own_close p (o.path w.process) w.is)
    quiet_or_not (at_home i f l k c has goes home) = inr (λ w. no_own_meet c (o.path w.process) w.is)
    quiet_or_not (at_child i g n b f l k x p c has less child path) = inr (λ w. no_own_poison p c (o.path w.process) w.is)

  pub queue_stays_complete : LocalLaws o → QueueStaysComplete o
  queue_stays_complete law = record {
    all = λ v t flags h e i can is other. let w = in_use is in h i w.first w.process w.status_is w.has;
    moves = λ rp before behind t u flags now kept keeps listed more to_look e i can is other.
        let w = in_use is in
        elim (to_look i w.first w.process w.status_is w.has) [
          | inl l ↦ l
          | inr no_more ↦
              let was = no_more e ((record_decides o law).found rp behind u e i keeps can is) other in
              let could = (record_decides o law).can rp before t e i kept was.0 in
              more i (listed e i could.0 could.1 was.1)
        ];
    drops = λ rp v t i flags now kept listed idle others e j can is other. elim (same_or_not j i) [
      | inr far ↦ others j far (listed e j can is other)
      | inl here ↦ absurd (other (subst (λ z. IsQuietStepAt o v z e) (sym here) ((record_decides o law).idle rp v t e i kept idle can (subst (IsAtNumber o v e) here is))))
    ];
    settled = λ rp v t flags e kept listed none can.
        let w = (event_has_one_owner o law).somewhere rp v t e kept can in
        elim (quiet_or_not v w.1) [
          | inl q ↦ (w.0, q)
          | inr n ↦ clash (is_listed flags w.0) (listed e w.0 can w.1 n) (none w.0)
        ];
  }
