use Rattle.std.proofs.Common.{◌≡◌, ◌++◌, drop}
use Rattle.std.specs.Prelude.{flat_map}
use Rattle.shim_report.specs.Report.{history_line}
use Rattle.shim_report.proofs.report.push_histories.Given as goal

abbrev pub invariant-loop-history : goal.invariant-loop-history
invariant-loop-history l = l.text ++ flat_map (history_line l.names) (drop l.history-index l.histories) ≡ l.initial.text ++ flat_map (history_line l.names) l.histories
