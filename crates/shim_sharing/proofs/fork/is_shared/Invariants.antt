use Rattle.std.proofs.Common.{◌≡◌, map, drop, false}
use Rattle.shim_units.specs.Usages.{captures_of, shared}
use Rattle.shim_sharing.proofs.fork.is_shared.Given as goal

abbrev pub invariant-loop-one : goal.invariant-loop-one
invariant-loop-one l = shared l.slot l.taken (map captures_of (drop l.one-index l.branches)) ≡ shared l.slot false (map captures_of l.branches)
