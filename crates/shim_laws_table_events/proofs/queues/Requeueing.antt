-- What can happen at a record that is as before, with its children, could happen before; and each enabled event is looked for at one record.
use Rattle.std.proofs.Common.{◌≡◌, ℕ, ◌+◌, List, [], ◌∷◌, ◌++◌, drop, length, sym, ap, ◌∙◌}
use Rattle.shim_base.specs.Paths.{Path}
use Rattle.shim_local.specs.Process.{Ops}
use Rattle.shim_local.specs.Laws.{LocalLaws}
use Rattle.shim_semantics.specs.Nodes.{Node}
use Rattle.shim_semantics.specs.Places.{branches}
use Rattle.shim_semantics.specs.Trees.{Event, Own, Meet, Poison, Close, End}
use Rattle.shim_laws_table.specs.NodeStatus.{ProcessStatus, lives, forks, place}
use Rattle.shim_laws_table.specs.Enabled.{at_step, at_end, at_close, at_home, at_child}
use Rattle.shim_laws_table.proofs.CanHappen.{enabled_are_found}
use Rattle.shim_laws_table.proofs.Closing.{one_less}
use Rattle.shim_laws_table.proofs.OneChange.{one_state}
use Rattle.shim_laws_table_events.specs.keeping.Tables.{TableView, HasProcessState, TableInvariant, views}
use Rattle.shim_laws_table_events.specs.queues.Requeueing.{IsAtNumber, RequeueingSuffices, EventHasOneOwner}
use Rattle.shim_laws_table_events.proofs.queues.RecordDecisions.{due_can, can_due}
use Rattle.shim_laws_table_events.proofs.queues.NoMore.{was_possible}

pub requeueing_suffices : {S : Type 0} (o : Ops S) → LocalLaws o → RequeueingSuffices o
requeueing_suffices o law rp before behind t u again e i kept keeps newly_ready can is out =
    let w = due_can o law rp before t kept i (was_possible o rp before behind u.root again i keeps newly_ready out (can_due o law rp behind u keeps can is)) in
    (w.1, w.0)

module _ {S : Type 0} (o : Ops S) (rp : Path) (v : TableView S) where
  -- the branches that lead to the process of a path
  abbrev to : Path → List ℕ
  to p = branches (drop (length rp) p)

  -- the place of the record at which an event is looked for
  abbrev IsFor : Event → List ℕ → Type 0
  IsFor (Own p) q = to p ≡ q
  IsFor (Meet c) q = to c.home ≡ q
  IsFor (Poison p c) q = (b : ℕ) × (to p ≡ q ++ b ∷ [])
  IsFor (Close p) q = to p ≡ q
  IsFor (End p) q = to p ≡ q

  one_place : (e : Event) (q r : List ℕ) → IsFor e q → IsFor e r → q ≡ r
  one_place (Own p) q r a b = sym a ∙ b
  one_place (Meet c) q r a b = sym a ∙ b
  one_place (Poison p c) q r a b = one_less q r a.0 b.0 (sym a.1 ∙ b.1)
  one_place (Close p) q r a b = sym a ∙ b
  one_place (End p) q r a b = sym a ∙ b

  record Placed (e : Event) (i : ℕ) : Type 0 where
    first : ℕ
    process : S
    status_is : ProcessStatus
    has : HasProcessState v i first process status_is
    for : IsFor e (place o rp process)

  module _ (root : Node S) (kept : TableInvariant o rp v root) where
    placed : {e : Event} {i : ℕ} → IsAtNumber o v e i → Placed e i
    placed (at_step i f l p has path) = record { first = f; process = l; status_is = lives; has = has; for = ap to (sym path) }
    placed (at_end i f l p has path) = record { first = f; process = l; status_is = lives; has = has; for = ap to (sym path) }
    placed (at_close i f n l p has path) = record { first = f; process = l; status_is = forks n; has = has; for = ap to (sym path) }
    placed (at_home i f l k c has goes home) = record { first = f; process = l; status_is = k; has = has; for = ap to (sym home) }
    placed (at_child i g n b f l k x p c has less child path) =
        let w = kept.represents.agrees.below i g n l has b less in
        let same : w.1 ≡ k = one_state v.states (views v) (g + b) w.0 f w.1 k w.2 x w.3 child in
        record { first = g; process = l; status_is = forks n; has = has; for = (b, ap to (sym path) ∙ (ap (place o rp) (sym same) ∙ w.4)) }

    once : (e : Event) (i j : ℕ) → IsAtNumber o v e i → IsAtNumber o v e j → i ≡ j
    once e i j a b =
        let w = placed a in
        let u = placed b in
        kept.represents.agrees.apart i j w.first u.first w.process u.process w.status_is u.status_is w.has u.has (one_place e (place o rp w.process) (place o rp u.process) w.for u.for)

pub event_has_one_owner : {S : Type 0} (o : Ops S) → LocalLaws o → EventHasOneOwner o
event_has_one_owner o law = record {
  somewhere = λ rp v t e kept can. enabled_are_found o rp v.states (views v) t e kept.represents can;
  once = λ rp v root e i j kept a b. once o rp v root kept e i j a b;
}
