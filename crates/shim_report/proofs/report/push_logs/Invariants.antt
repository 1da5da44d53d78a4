use Rattle.std.proofs.Common.{◌≡◌, ◌++◌, drop}
use Rattle.std.specs.Prelude.{flat_map}
use Rattle.shim_report.specs.Report.{log_line}
use Rattle.shim_report.proofs.report.push_logs.Given as goal

abbrev pub invariant-loop-log : goal.invariant-loop-log
invariant-loop-log l = l.text ++ flat_map (log_line l.names) (drop l.log-index l.logs) ≡ l.initial.text ++ flat_map (log_line l.names) l.logs
