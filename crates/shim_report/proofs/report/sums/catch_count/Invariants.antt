use Rattle.std.proofs.Common.{◌≡◌, ◌≤◌, ◌+◌, drop}
use Rattle.shim_report.specs.Summary.{catch_count}
use Rattle.shim_report.proofs.report.sums.catch_count.Given as goal

abbrev pub invariant-loop-log : goal.invariant-loop-log
invariant-loop-log l = (l.count + catch_count (drop l.log-index l.logs) ≡ catch_count l.logs) × (l.count ≤ l.log-index)
