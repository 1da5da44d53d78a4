use Rattle.std.proofs.Common.{◌≡◌, map, false, None}
use Rattle.shim_units.specs.Usages.{captures_of, shared}
use Rattle.shim_sharing.specs.Sharing.{least_below}
use Rattle.shim_sharing.proofs.fork.find_shared.Given as goal

abbrev pub invariant-loop-slot : goal.invariant-loop-slot
invariant-loop-slot l = least_below l.slot (λ x. shared x false (map captures_of l.branches)) ≡ None
