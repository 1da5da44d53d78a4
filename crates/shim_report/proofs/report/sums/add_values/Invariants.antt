use Rattle.std.proofs.Common.{◌≡◌, ◌<◌, ◌+ℤ◌, pos, drop}
use Rattle.shim_report.specs.Summary.{residue, sum_of_values}
use Rattle.shim_report.proofs.report.sums.add_values.Given as goal

abbrev pub invariant-loop-value : goal.invariant-loop-value
invariant-loop-value l = (residue (pos l.sum +ℤ sum_of_values (drop l.value-index l.values)) ≡ residue (pos l.start +ℤ sum_of_values l.values)) × (l.sum < 1000000)
