use Rattle.std.proofs.Common.{◌≡◌, drop}
use Rattle.shim_process.specs.Sharers.{is_among}
use Rattle.shim_locations.proofs.sharers.is_among.Given as goal

abbrev pub invariant-loop-one : goal.invariant-loop-one
invariant-loop-one l = is_among l.c.channel (drop l.one-index l.given) ≡ is_among l.c.channel l.given
