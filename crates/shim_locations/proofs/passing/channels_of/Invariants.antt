use Rattle.std.proofs.Common.{◌≡◌, ◌++◌, drop}
use Rattle.shim_process.specs.Arguments.{channels_of}
use Rattle.shim_locations.proofs.passing.channels_of.Given as goal

abbrev pub invariant-loop-location : goal.invariant-loop-location
invariant-loop-location l = l.channels ++ channels_of (drop l.location-index l.locations) ≡ channels_of l.locations
