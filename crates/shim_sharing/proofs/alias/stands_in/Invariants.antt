use Rattle.std.proofs.Common.{◌≡◌, drop}
use Rattle.shim_units.specs.Rule.{stands_in}
use Rattle.shim_sharing.proofs.alias.stands_in.Given as goal

abbrev pub invariant-loop-one : goal.invariant-loop-one
invariant-loop-one l = stands_in l.slot (drop l.one-index l.given) ≡ stands_in l.slot l.given
