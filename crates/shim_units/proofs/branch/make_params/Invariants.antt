use Rattle.std.proofs.Common.{◌≡◌, map, take}
use Rattle.shim_units.specs.Usages.{captures_of}
use Rattle.shim_units.specs.Lifting.{branch_param}
use Rattle.shim_units.proofs.branch.make_params.Given as goal

abbrev pub invariant-loop-slot : goal.invariant-loop-slot
invariant-loop-slot l = l.made ≡ map (branch_param l.function (captures_of l.captures)) (take l.slot-index l.slots)
