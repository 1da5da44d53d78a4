use Rattle.shim_units.specs.Usages.{TakesBelow}
use Rattle.shim_units.proofs.captures.take_all.Given as goal

abbrev pub invariant-loop-at : goal.invariant-loop-at
invariant-loop-at l = TakesBelow l.made l.at l.sorts l.uses
