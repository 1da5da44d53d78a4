use Rattle.std.proofs.Common.{◌≡◌, ◌++◌, drop}
use Rattle.shim_locations.proofs.locations.copied.Given as goal

abbrev pub invariant-loop-location : goal.invariant-loop-location
invariant-loop-location l = l.copies ++ drop l.location-index l.locations ≡ l.locations
