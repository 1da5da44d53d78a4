use Rattle.std.proofs.Common.{◌≡◌, ◌++◌, drop}
use Rattle.shim_units.specs.Lifting.{given_exceptions}
use Rattle.shim_units.proofs.exceptions.give_unordered.Given as goal

abbrev pub invariant-loop-exception : goal.invariant-loop-exception
invariant-loop-exception l = l.made ++ given_exceptions l.raises (drop l.exception-index l.exceptions) ≡ given_exceptions l.raises l.exceptions
