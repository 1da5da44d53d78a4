use Rattle.std.proofs.Common.{◌≡◌, ◌≤◌, ◌+◌, ◌*◌, ◌-◌}
use Rattle.std.specs.List.{All}
use Rattle.shim_replay.specs.Entries.{entries_of, IsUnnamed}
use Rattle.shim_replay.specs.Scanning.{scan_lines, with_front}
use Rattle.shim_replay.proofs.reading.scan_lines.Given as goal

abbrev pub invariant-loop-count : goal.invariant-loop-count
invariant-loop-count l =
    (with_front (entries_of l.entries) (scan_lines (4294967295 - l.count) (l.count + 2) l.sum l.rest) ≡ scan_lines 4294967295 2 0 l.bytes)
    × All IsUnnamed l.entries × (l.sum ≤ l.count * 4000000)
