use Rattle.shim_units.proofs.Ascending.{IsRest}
use Rattle.shim_units.proofs.exceptions.give_ascending.Given as goal

abbrev pub invariant-loop-raise : goal.invariant-loop-raise
invariant-loop-raise l = IsRest l.raises l.exceptions l.made l.start l.raise-index
