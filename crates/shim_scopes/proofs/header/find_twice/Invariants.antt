use Rattle.std.proofs.Common.{◌≡◌, [], drop, take}
use Rattle.shim_scopes.specs.Functions.{twice_after}
use Rattle.shim_scopes.proofs.header.find_twice.Given as goal

abbrev pub invariant-loop-at : goal.invariant-loop-at
invariant-loop-at l = twice_after (take l.at l.names) (drop l.at l.names) ≡ twice_after [] l.names
