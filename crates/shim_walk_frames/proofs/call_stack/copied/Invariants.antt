use Rattle.std.proofs.Common.{◌≡◌, ◌++◌, drop}
use Rattle.shim_walk_frames.proofs.call_stack.copied.Given as goal

abbrev pub invariant-loop-unit : goal.invariant-loop-unit
invariant-loop-unit l = l.copies ++ drop l.unit-index l.units ≡ l.units
