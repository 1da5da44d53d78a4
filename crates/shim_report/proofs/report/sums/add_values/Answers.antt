use Rattle.std.proofs.Common.{◌<◌, ◌∙◌, FitsSigned, ap, arith, get_or, length, pos, rules, to_z-of_z, w64}
use Rattle.shim_report.specs.Summary.{residue}
use Rattle.shim_report.proofs.Residues.{value_added}
use Rattle.shim_report.proofs.report.sums.add_values.Goals as goal

pub loop-value-preserved : goal.loop-value-preserved
loop-value-preserved c =
    let i = c.loop-value.value-index in
    let values = c.args.values.now in
    let inside : i < length values = let t = c.loop-value-test.true in omega arith in
    let fits : FitsSigned w64 (get_or values i (pos 0)) = search rules in
    let is = c.residue.ensures.value ∙ ap residue (to_z-of_z fits) in
    (value_added c.loop-value.sum c.residue.result i _ values (pos 0) inside is c.loop-value.invariant.0, omega arith)
