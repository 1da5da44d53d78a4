use Rattle.std.proofs.Common.{◌≡◌, ◌<◌, drop}
use Rattle.shim_replay.specs.Scanning as lists
use Rattle.shim_replay.proofs.numbers.scan_digits.Given as goal

abbrev pub invariant-loop-at : goal.invariant-loop-at
invariant-loop-at l = (lists.scan_digits l.limit l.number (drop l.at l.bytes) ≡ lists.scan_digits l.limit 0 l.bytes) × (l.number < l.limit)
