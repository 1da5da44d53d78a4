use Rattle.std.proofs.Common.{◌<◌, ◌∙◌, ◌+ℤ◌, ap, arith, length, pos}
use Rattle.shim_local.specs.declared.ended.History.{History}
use Rattle.shim_report.specs.Summary.{residue, sum_of_values}
use Rattle.shim_report.proofs.Residues.{history_added}
use Rattle.shim_report.proofs.report.sums.value_sum.Goals as goal

pub loop-history-preserved : goal.loop-history-preserved
loop-history-preserved c =
    let i = c.loop-history.history-index in
    let histories = c.args.histories.now in
    let inside : i < length histories = let t = c.loop-history-test.true in omega arith in
    let is = c.add_values-sum.ensures.value ∙ ap (λ vs. residue (pos c.loop-history.sum +ℤ sum_of_values vs)) (c.as_slice.ensures ∙ ap (λ (h : History). h.values) c.history-item.is) in
    (history_added c.loop-history.sum c.add_values-sum.result i _ histories _ inside is c.loop-history.invariant.0, c.add_values-sum.ensures.small)
