use Rattle.std.proofs.Common.{◌≡◌}
use Rattle.shim_units.specs.Units.{upto}
use Rattle.shim_sharing.proofs.units.upto.Given as goal

abbrev pub invariant-loop-at : goal.invariant-loop-at
invariant-loop-at l = l.made ≡ upto l.at
