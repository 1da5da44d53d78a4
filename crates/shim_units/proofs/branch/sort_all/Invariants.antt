use Rattle.std.proofs.Common.{◌≡◌, map, take}
use Rattle.shim_units.specs.Lifting.{sort_of}
use Rattle.shim_units.proofs.branch.sort_all.Given as goal

abbrev pub invariant-loop-slot : goal.invariant-loop-slot
invariant-loop-slot l = l.made ≡ map (sort_of l.function) (take l.slot-index l.slots)
