use Rattle.std.proofs.Common.{◌≡◌, None}
use Rattle.shim_sharing.specs.Sharing.{common}
use Rattle.shim_units.specs.Usages.{captures_of}
use Rattle.shim_sharing.proofs.fork.find_common.Given as goal

abbrev pub invariant-loop-slot : goal.invariant-loop-slot
invariant-loop-slot l = common l.slot (captures_of l.one) (captures_of l.other) ≡ None
