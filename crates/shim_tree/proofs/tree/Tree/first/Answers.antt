use Rattle.std.proofs.Common.{◌≡◌, ◌∙◌, sym, ap, subst, Some, refl}
use Rattle.std.specs.Option.{option_map}
use Rattle.shim_tree.specs.NodeStatus.{node}
use Rattle.shim_run_log.specs.Events.{event_of}
use Rattle.shim_tree.specs.Finding.{found_event}
use Rattle.shim_semantics.specs.Places.{SoundBelow}
use Rattle.shim_semantics.specs.Walks.{head, walk}
use Rattle.shim_semantics.proofs.Enabled.{first_enabled, none_first}
use Rattle.shim_tree.proofs.tree.Tree.first.Goals as goal
use Rattle.shim_base.proofs.Facts.{none_some}

pub returns-in-None-clause-none : goal.returns-in-None-clause-none
returns-in-None-clause-none g c =
    let o = g.L.Local.ops in
    let root : node c.self.inside.root c.self.inside.status ≡ c.args.self.now.root = ap (λ t. t.root) c.self.view_is in
    (λ h. none_first o c.args.self.now (sym (ap (option_map found_event) c.in-None.is) ∙ (c.found_first.ensures ∙ ap (λ z. head (walk o z)) root)), λ h. refl)

pub returns-in_ok-event-in-Some-clause-none : goal.returns-in_ok-event-in-Some-clause-none
returns-in_ok-event-in-Some-clause-none g c =
    let o = g.L.Local.ops in
    let root : node c.self.inside.root c.self.inside.status ≡ c.args.self.now.root = ap (λ t. t.root) c.self.view_is in
    let sound = subst (SoundBelow o) root c.self.invariant.0.below in (
      λ h. none_some c.in_ok-event-in-Some.event (sym h),
      λ h. absurd (first_enabled o c.args.self.now (found_event c.in-Some.found) sound (sym (ap (option_map found_event) c.in-Some.is) ∙ (c.found_first.ensures ∙ ap (λ z. head (walk o z)) root)) (h (found_event c.in-Some.found))),
    )

pub returns-in_ok-event-in-Some-clause-enabled : goal.returns-in_ok-event-in-Some-clause-enabled
returns-in_ok-event-in-Some-clause-enabled g c =
    let o = g.L.Local.ops in
    let root : node c.self.inside.root c.self.inside.status ≡ c.args.self.now.root = ap (λ t. t.root) c.self.view_is in
    let sound = subst (SoundBelow o) root c.self.invariant.0.below in
    first_enabled o c.args.self.now (event_of c.in_ok-event-in-Some.event) sound
    (ap Some c.in_ok-event-in-Some.ensures ∙ (sym (ap (option_map found_event) c.in-Some.is) ∙ (c.found_first.ensures ∙ ap (λ z. head (walk o z)) root)))
