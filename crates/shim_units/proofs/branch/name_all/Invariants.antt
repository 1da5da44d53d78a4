use Rattle.std.proofs.Common.{◌≡◌, map, take}
use Rattle.shim_units.specs.Lifting.{name_of}
use Rattle.shim_units.proofs.branch.name_all.Given as goal

abbrev pub invariant-loop-slot : goal.invariant-loop-slot
invariant-loop-slot l = l.made ≡ map (name_of l.function) (take l.slot-index l.slots)
