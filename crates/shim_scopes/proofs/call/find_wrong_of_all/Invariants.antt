use Rattle.std.proofs.Common.{◌≡◌, ◌-◌, length, drop}
use Rattle.shim_scopes.specs.Calls.{wrong_in_all}
use Rattle.shim_scopes.proofs.call.find_wrong_of_all.Given as goal

abbrev pub invariant-loop-at : goal.invariant-loop-at
invariant-loop-at l = wrong_in_all l.visible (drop l.at l.params) (drop l.at l.args) ≡ wrong_in_all l.visible l.params l.args

abbrev pub decreases-loop-at : goal.decreases-loop-at
decreases-loop-at l = length l.params - l.at
