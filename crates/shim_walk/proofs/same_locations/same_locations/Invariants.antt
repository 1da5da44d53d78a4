use Rattle.std.proofs.Common.{◌≡◌, ◌↔◌, drop}
use Rattle.shim_walk.proofs.same_locations.same_locations.Given as goal

abbrev pub invariant-loop-location : goal.invariant-loop-location
invariant-loop-location l = (drop l.location-index l.one ≡ l.remainder) ↔ (l.one ≡ l.other)
