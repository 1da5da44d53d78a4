use Rattle.std.proofs.Common.{◌≡◌, drop}
use Rattle.shim_process.specs.Locations.{own_of}
use Rattle.shim_locations.proofs.sharers.own_of.Given as goal

abbrev pub invariant-loop-location : goal.invariant-loop-location
invariant-loop-location l = own_of l.c.channel (drop l.location-index l.locations) ≡ own_of l.c.channel l.locations
