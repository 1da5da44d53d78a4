use Rattle.std.proofs.Common.{◌≡◌, ◌++◌, drop}
use Rattle.shim_locations.proofs.passing.copy_channels.Given as goal

abbrev pub invariant-loop-channel : goal.invariant-loop-channel
invariant-loop-channel l = l.copies ++ drop l.channel-index l.channels ≡ l.channels
