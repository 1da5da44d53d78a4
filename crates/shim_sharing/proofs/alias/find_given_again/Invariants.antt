use Rattle.std.proofs.Common.{◌≡◌, [], drop, take}
use Rattle.shim_sharing.specs.Sharing.{given_again}
use Rattle.shim_sharing.proofs.alias.find_given_again.Given as goal

abbrev pub invariant-loop-at : goal.invariant-loop-at
invariant-loop-at l = given_again (take l.at l.given) (drop l.at l.given) ≡ given_again [] l.given
