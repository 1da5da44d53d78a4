use Rattle.std.proofs.Common.{◌≡◌, ◌<◌, ◌+ℤ◌, pos, drop}
use Rattle.shim_report.specs.Summary.{all_values, residue, sum_of_values}
use Rattle.shim_report.proofs.report.sums.value_sum.Given as goal

abbrev pub invariant-loop-history : goal.invariant-loop-history
invariant-loop-history l = (residue (pos l.sum +ℤ sum_of_values (all_values (drop l.history-index l.histories))) ≡ residue (sum_of_values (all_values l.histories))) × (l.sum < 1000000)
