-- Nothing can happen where nothing can at the listed numbers.
use Rattle.std.proofs.Common.{◌≡◌, ◌≢◌, ◌≤◌, ◌<◌, ◌+◌, ◌⊎◌, inl, inr, ℕ, zero, suc, Bool, true, false, Option, Some, None, List, [], length, refl, sym, ap, subst, ◌∙◌, arith}
use Rattle.std.specs.Prelude.{slice_get, ◌↔◌, IsTrue}
use Rattle.std.proofs.lemmas.Option.{slice_get_within}
use Rattle.shim_base.proofs.Facts.{none_some, some_same}
use Rattle.shim_local.specs.Process.{Ops}
use Rattle.shim_local.specs.Laws.{LocalLaws}
use Rattle.shim_semantics.specs.Trees.{Tree, Event, Own, after, IsQuiescent, own_action_at}
use Rattle.shim_laws_table.specs.Enabled.{Can}
use Rattle.shim_laws_table.proofs.CanHappen.{enabled_by_records}
use Rattle.shim_records.specs.Members.{IsAmong}
use Rattle.shim_records.specs.Waiting.{AreListedIn}
use Rattle.shim_laws_table_events.specs.keeping.Tables.{TableView, views}
use Rattle.shim_laws_table_events.specs.queues.RecordDecisions.{HasNothingDue, CanHappenAt, IsQuietStepAt}
use Rattle.shim_laws_table_events.specs.queues.EventQueue.{is_set, is_listed}
use Rattle.shim_laws_table_events.proofs.queues.Idle.{record_decides}
use Rattle.shim_laws_table_events.proofs.queues.Requeueing.{event_has_one_owner}
use Rattle.shim_process_table.specs.Stepping.{IsBeforeQuiet}
use Rattle.shim_process_table.specs.Due.{DueIs}
use Rattle.shim_process_table.specs.declared.due.Due.{Due}
use Rattle.shim_process_table.specs.declared.due.Due.TheVariants as code
use Rattle.shim_process_table.proofs.DueEvents as events
use Rattle.shim_run_state.specs.RunStates.{RunStateView, tree_in, RunStateInvariant, IsQuietAt}
use Rattle.shim_run_state.specs.CheckingOut.{NoneCheckedOut}
use Rattle.shim_run_state.specs.Quiescence.{NoneQuiet, NoneDue}

-- a flag that is set is there
pub flag_there : (flags : List Bool) (i : ℕ) → is_listed flags i ≡ true → slice_get flags i ≡ Some true
flag_there flags i h = on (slice_get flags i) h
  where
    on : (x : Option Bool) → is_set x ≡ true → x ≡ Some true
    on None h = absurd cc
    on (Some true) h = refl
    on (Some false) h = absurd cc

module _ {S : Type 0} (o : Ops S) (law : LocalLaws o) where
  -- something that is due at a number is an event
  pub some_due : (v : TableView S) (i : ℕ) (d : Due) → d ≢ code.Nothing → DueIs o v i d → (e : Event) × CanHappenAt o v i e
  some_due v i code.Nothing n w = absurd (n refl)
  some_due v i code.Put n w = (_, events.due_put o v i w)
  some_due v i code.Fork n w = (_, events.due_fork o v i w)
  some_due v i (code.Throw label) n w = (_, events.due_throw o v i label w)
  some_due v i (code.Trap kind line) n w = (_, events.due_trap o v i kind line w)
  some_due v i code.Finish n w = (_, events.due_finish o v i w)
  some_due v i code.Close n w = (_, events.due_close o v i w)
  some_due v i code.MeetAlone n w = (_, events.due_alone o v i w)
  some_due v i (code.Meet q) n w = (_, events.due_meet o v i q w)
  some_due v i (code.Poison q j) n w = (_, events.due_poison o v i q j w)

  -- or nothing is
  pub nothing_due : (v : TableView S) (i : ℕ) (d : Due) → d ≡ code.Nothing → DueIs o v i d → HasNothingDue o v i
  nothing_due v i d is w = subst (DueIs o v i) is w

  module _ (v : RunStateView S) (kept : RunStateInvariant o v) (none : NoneCheckedOut o v) where
    abbrev pub t : Tree S
    t = tree_in o v

    -- where one is before a quiet step, that can happen
    pub one_quiet : (n : ℕ) → IsBeforeQuiet o n v.table true → IsQuiescent o t → ⊥
    one_quiet n w rest = ((enabled_by_records o law).steps [] v.table.states (views v.table) t n w.0 w.1 kept.represents.represents w.2).1 (ap own_action_at w.3) (rest (Own (o.path w.1)))

    pub one_due : (n : ℕ) (e : Event) → CanHappenAt o v.table n e → IsQuiescent o t → ⊥
    one_due n e due rest = ((record_decides o law).can [] v.table t e n kept.represents due).0 (rest e)

    -- where at no listed number anything can, nothing can
    module _ (ready_queue event_queue : List ℕ) (ready_queues : AreListedIn ready_queue v.process_lists.ready_queue) (event_queues : AreListedIn event_queue v.process_lists.event_queue) (no_quiet : NoneQuiet o v.table ready_queue true) (no_due : NoneDue o v.table event_queue true) where
      no_step : (i : ℕ) (e : Event) → IsQuietStepAt o v.table i e → ⊥
      no_step i e s =
          let q : IsQuietAt o v.table i s.process = record { first = s.first; has = s.has; stop_is = s.stop_is } in
          elim (kept.ready_queue i s.process q) [
            | inl h ↦ no_quiet i (ready_queues.all i (flag_there v.process_lists.ready_queue i h)) s.first s.process s.has s.stop_is
            | inr h ↦ none i s.process (record { at_quiet = q; flag = h })
          ]

      cannot : (e : Event) → Can o t e → ⊥
      cannot e can =
          let at = (event_has_one_owner o law).somewhere [] v.table t e kept.represents can in
          let listed = kept.event_queue e at.0 can at.1 (no_step at.0 e) in
          let idle = no_due at.0 (event_queues.all at.0 (flag_there v.process_lists.event_queue at.0 listed)) in
          no_step at.0 e ((record_decides o law).idle [] v.table t e at.0 kept.represents idle can at.1)

      pub rests : IsQuiescent o t
      rests e = on (after o e t) refl
        where
          on : (x : Option (Tree S)) → after o e t ≡ x → after o e t ≡ None
          on None h = h
          on (Some u) h = absurd (cannot e (λ n. none_some u (sym n ∙ h)))

module _ {S : Type 0} (o : Ops S) (law : LocalLaws o) (v : RunStateView S) (kept : RunStateInvariant o v) (none : NoneCheckedOut o v) (ready_queue : List ℕ) where
  -- what the code reads at the listed numbers decides whether anything can happen
  pub not_yet_quiescent : (b : Bool) → b ≡ false → NoneQuiet o v.table ready_queue b → IsTrue false ↔ IsQuiescent o (tree_in o v)
  not_yet_quiescent false e w = (λ h. absurd cc, λ rest. absurd (one_quiet o law v kept none w.0 w.1 rest))
  not_yet_quiescent true e w = absurd cc

  pub quiescent_by_queues : (b d : Bool) (event_queue : List ℕ) → AreListedIn ready_queue v.process_lists.ready_queue → AreListedIn event_queue v.process_lists.event_queue → b ≡ true → NoneQuiet o v.table ready_queue b → NoneDue o v.table event_queue d → IsTrue d ↔ IsQuiescent o (tree_in o v)
  quiescent_by_queues true true event_queue q a e w u = (λ h. rests o law v kept none ready_queue event_queue q a w u, λ rest. refl)
  quiescent_by_queues true false event_queue q a e w u = (λ h. absurd cc, λ rest. absurd (one_due o law v kept none u.0 u.1 u.2 rest))
  quiescent_by_queues false d event_queue q a e w u = absurd cc

-- ---- a run over numbers

-- it holds of each number before this place
abbrev pub Before : (ℕ → Type 0) → List ℕ → ℕ → Type 0
Before P ns m = (b n : ℕ) → b < m → slice_get ns b ≡ Some n → P n

pub before_more : (P : ℕ → Type 0) (ns : List ℕ) (m x : ℕ) → slice_get ns m ≡ Some x → P x → Before P ns m → Before P ns (m + 1)
before_more P ns m x there p h b n less e = elim (less_or_same b m less) [
  | inl under ↦ h b n under e
  | inr same ↦ subst P (some_same x n (sym there ∙ (ap (slice_get ns) (sym same) ∙ e))) p
]
  where
    less_or_same : (i m : ℕ) → i < m + 1 → (i < m) ⊎ (i ≡ m)
    less_or_same zero zero less = inr refl
    less_or_same zero (suc m) less = inl (omega arith)
    less_or_same (suc i) zero less = absurd (omega (arith, less))
    less_or_same (suc i) (suc m) less = elim (less_or_same i m (omega (arith, less))) [ inl u ↦ inl (omega (arith, u)) | inr e ↦ inr (ap suc e) ]

pub before_all : (P : ℕ → Type 0) (ns : List ℕ) (m : ℕ) → length ns ≤ m → Before P ns m → (n : ℕ) → IsAmong n ns → P n
before_all P ns m past h n occurs = let inside = slice_get_within ns occurs.0 n occurs.1 in h occurs.0 n (omega (arith, inside, past)) occurs.1
