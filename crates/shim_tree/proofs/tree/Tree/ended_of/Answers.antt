use Rattle.std.proofs.Common.{◌+◌, map, cond, ◌∙◌}
use Rattle.std.specs.FinMap as finite
use Rattle.shim_local.specs.declared.Outcome.TheVariants.{Spent}
use Rattle.shim_semantics.specs.Trees.{sum}
use Rattle.shim_semantics.specs.Endings.{waits_of, outcome_of_root, history_of, own_steps, all_logs}
use Rattle.shim_run_log.specs.Logged.{logged}
use Rattle.shim_semantics.proofs.ReadOff.{read_off}
use Rattle.shim_tree.proofs.tree.Tree.ended_of.Goals as goal

pub returns : goal.returns
returns g c =
    let o = g.L.Local.ops in
    let is = c.self.view_is in
    read_off o c.args.self.now _ c.args.quiescent c.requires.quiescent
    (c.in_ok-from_slice.ensures ∙ c.as_slice.ensures.value ∙ (λ i. (is i).output))
    (c.in_ok-list.ensures ∙ (λ i. map history_of (finite.entries (is i).histories)))
    (c.in_ok-logs_by_path.ensures ∙ (λ i. all_logs (finite.entries (logged (c.as_slice-2.ensures.value i)))) ∙ (λ i. all_logs (finite.entries (is i).logs)))
    (c.in_ok-waits_of.ensures ∙ (λ i. waits_of o (is i).root c.outcome_of-outcome.result))
    (c.in_ok-list-2.ensures ∙ (λ i. map own_steps (finite.entries (is i).counts)))
    (λ i. (is i).events)
    (λ i. (c.total.ensures ∙ (λ j. sum (finite.values (is j).counts))) i + (is i).events)
    (c.outcome_of-outcome.ensures c.self.inside.root ∙ (λ i. cond c.args.quiescent (outcome_of_root (is i).root) Spent))
