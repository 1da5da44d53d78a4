use Rattle.std.proofs.Common.{◌≡◌, ◌++◌, drop}
use Rattle.shim_units.specs.Usages.{captures_of}
use Rattle.shim_units.specs.Lifting.{taken}
use Rattle.shim_units.proofs.branch.take_some.Given as goal

abbrev pub invariant-loop-slot : goal.invariant-loop-slot
invariant-loop-slot l = l.made ++ taken (captures_of l.captures) (drop l.slot-index l.slots) ≡ taken (captures_of l.captures) l.slots
