use Rattle.std.proofs.Common.{ap, sym, map, ◌≡◌, ◌∙◌, arith}
use Rattle.std.specs.FinMap as finite
use Rattle.shim_base.specs.PathLaws.{path_order_total}
use Rattle.shim_semantics.specs.Trees.{sum}
use Rattle.shim_run_log.specs.Reserved.{stepped}
use Rattle.shim_run_log.proofs.Mapped.{entries_of}
use Rattle.shim_run_log.proofs.Reserved.{sum_stepped}
use Rattle.shim_run_log.proofs.step_counts.StepCounts.total.Goals as goal

pub loop-count-init : goal.loop-count-init
loop-count-init c =
    let all : sum c.into_iter-count-iterator.result ≡ sum (finite.values (stepped c.args.self.now)) = ap sum (c.into_iter-count-iterator.ensures.into_iter_gives ∙ c.values-count-items.ensures.rest
    ∙ ap (map (λ e. e.1)) (sym (entries_of path_order_total c.self.inside.kept.entries c.values-count-items.ensures.ordered) ∙ ap finite.entries c.self.view_is)) ∙ sym (sum_stepped c.args.self.now) in
    omega (arith, all)
