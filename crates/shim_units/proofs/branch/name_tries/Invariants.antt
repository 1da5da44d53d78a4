use Rattle.std.proofs.Common.{◌≡◌, map, take}
use Rattle.shim_units.specs.Lifting.{try_name}
use Rattle.shim_units.proofs.branch.name_tries.Given as goal

abbrev pub invariant-loop-exception : goal.invariant-loop-exception
invariant-loop-exception l = l.made ≡ map (try_name l.function) (take l.exception-index l.tries)
