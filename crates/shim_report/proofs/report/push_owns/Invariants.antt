use Rattle.std.proofs.Common.{◌≡◌, ◌++◌, drop}
use Rattle.std.specs.Prelude.{flat_map}
use Rattle.shim_report.specs.Report.{own_line}
use Rattle.shim_report.proofs.report.push_owns.Given as goal

abbrev pub invariant-loop-own : goal.invariant-loop-own
invariant-loop-own l = l.text ++ flat_map own_line (drop l.own-index l.owns) ≡ l.initial.text ++ flat_map own_line l.owns
