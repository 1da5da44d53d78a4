use Rattle.std.proofs.Common.{◌≡◌, ◌++◌, drop}
use Rattle.std.specs.Prelude.{flat_map}
use Rattle.shim_reasons.specs.Reasons.{because_line}
use Rattle.shim_reasons.proofs.reasons.push_waits.Given as goal

abbrev pub invariant-loop-wait : goal.invariant-loop-wait
invariant-loop-wait l = l.text ++ flat_map because_line (drop l.wait-index l.waits) ≡ l.initial.text ++ flat_map because_line l.waits
