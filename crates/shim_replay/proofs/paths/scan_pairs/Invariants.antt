use Rattle.std.proofs.Common.{◌≡◌, ◌-◌, length}
use Rattle.shim_replay.specs.Scanning.{scan_pairs}
use Rattle.shim_replay.proofs.Pairs.{with_pairs}
use Rattle.shim_replay.proofs.paths.scan_pairs.Given as goal

abbrev pub invariant-loop : goal.invariant-loop
invariant-loop l = with_pairs l.pairs (scan_pairs (length l.bytes - l.counter) l.rest) ≡ scan_pairs (length l.bytes) l.bytes
