use Rattle.std.proofs.Common.{◌≡◌, ◌++◌, drop}
use Rattle.std.specs.Prelude.{flat_map}
use Rattle.shim_report.specs.Report.{value_part}
use Rattle.shim_report.proofs.report.lines.push_values.Given as goal

abbrev pub invariant-loop-value : goal.invariant-loop-value
invariant-loop-value l = l.text ++ flat_map value_part (drop l.value-index l.values) ≡ l.initial.text ++ flat_map value_part l.values
