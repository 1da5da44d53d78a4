use Rattle.std.proofs.Common.{◌≤◌, ◌++◌, ◌∙◌, refl, sym, ap, subst, map, IsTrue}
use Rattle.std.specs.Prelude.{◌↔◌}
use Rattle.std.specs.FinMap as finite
use Rattle.shim_semantics.specs.Places.{SoundBelow}
use Rattle.shim_semantics.specs.Trees.{IsQuiescent, count_of}
use Rattle.shim_semantics.specs.Endings as endings
use Rattle.shim_semantics.proofs.Listed.{ended_spent}
use Rattle.shim_semantics.proofs.ReadOff.{read_off}
use Rattle.shim_run_log.specs.Logged.{logged}
use Rattle.shim_run_log.specs.Counted.{counted}
use Rattle.shim_run_state.specs.Fields.{view_of, count_in}
use Rattle.shim_run_state.specs.RunStates.{tree_in, path_at, counts_from}
use Rattle.shim_run_state.proofs.RootRead.{root_is, root_in_use, empty_where_quiescent}
use Rattle.shim_run_state.proofs.Summing.{counts_are_few}
use Rattle.shim_run_state.proofs.run_state.RunState.ended_of.Goals as goal

pub outcome_of-outcome-requires-after_bounds : goal.outcome_of-outcome-requires-after_bounds
outcome_of-outcome-requires-after_bounds g t c κs =
    let o = g.L.Local.ops in
    let w = t.self.inside in
    let v = view_of w.begun.value w.table w.output.items w.histories (logged w.logs.items) w.process_lists w.past.items w.events in
    root_in_use o w.table (tree_in o v).root t.self.invariant.0.represents

pub own_steps-requires-clause-few : goal.own_steps-requires-clause-few
own_steps-requires-clause-few g c κs within p =
    let o = g.L.Local.ops in
    let w = c.self.inside in
    let v = view_of w.begun.value w.table w.output.items w.histories (logged w.logs.items) w.process_lists w.past.items w.events in
    subst (λ z. count_of (counted (counts_from (path_at o w.table) z ++ map count_in c.as_slice-3.result.now)) p ≤ 4000000) (sym c.own.ensures)
    (subst (λ z. count_of (counted (counts_from (path_at o w.table) w.process_lists.own ++ map count_in z)) p ≤ 4000000) (sym c.as_slice-3.ensures.value) (counts_are_few o v c.self.invariant.0 p))

pub returns-clause-ended : goal.returns-clause-ended
returns-clause-ended g c =
    let o = g.L.Local.ops in
    let w = c.self.inside in
    let v = view_of w.begun.value w.table w.output.items w.histories (logged w.logs.items) w.process_lists w.past.items w.events in
    let kept = c.self.invariant.0 in
    let root = (tree_in o v).root in
    let is_root = root_is o w.table root kept.represents in
    let rests = subst (λ z. IsTrue c.args.quiescent ↔ IsQuiescent o (tree_in o z)) (sym c.self.view_is) c.requires in
    read_off o (tree_in o v) _ c.args.quiescent (empty_where_quiescent o v c.args.quiescent kept rests)
    (c.in_ok-from_slice.ensures ∙ c.as_slice.ensures.value)
    c.in_ok-list.ensures
    (c.in_ok-logs_by_path.ensures ∙ ap (λ z. endings.all_logs (finite.entries (logged z))) c.as_slice-2.ensures.value)
    (c.in_ok-waits_of.ensures root is_root)
    (c.in_ok-own_steps.ensures ∙ (λ i. map endings.own_steps (finite.entries (counted (counts_from (path_at o w.table) (c.own.ensures i) ++ map count_in (c.as_slice-3.ensures.value i))))))
    refl
    c.self.invariant.1
    (c.outcome_of-outcome.ensures 4294967296 root is_root)
    ∙ ap (λ z. endings.ended o (tree_in o z)) c.self.view_is

pub returns-clause-spent : goal.returns-clause-spent
returns-clause-spent g c =
    let o = g.L.Local.ops in
    let below = subst (λ z. SoundBelow o (tree_in o z).root) c.self.view_is c.self.invariant.0.represents.represents.sound.below in
    ended_spent o (tree_in o c.args.self.now) below _ (returns-clause-ended g c)
