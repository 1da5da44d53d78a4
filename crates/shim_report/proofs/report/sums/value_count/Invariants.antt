use Rattle.std.proofs.Common.{◌≡◌, ◌+◌, drop, length}
use Rattle.shim_report.specs.Summary.{all_values}
use Rattle.shim_report.proofs.report.sums.value_count.Given as goal

abbrev pub invariant-loop-history : goal.invariant-loop-history
invariant-loop-history l = l.count + length (all_values (drop l.history-index l.histories)) ≡ length (all_values l.histories)
