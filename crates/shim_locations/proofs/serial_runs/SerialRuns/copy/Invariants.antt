use Rattle.std.proofs.Common.{◌≡◌, ◌++◌, ◌+◌, ◌≤◌, drop, length}
use Rattle.std.specs.Prelude.{vec_capacity, vec_len}
use Rattle.shim_locations.proofs.serial_runs.SerialRuns.copy.Given as goal

abbrev pub invariant-loop-run : goal.invariant-loop-run
invariant-loop-run l = record {
  copied : l.runs.items ++ drop l.run-index l.old ≡ l.old;
  room : vec_len l.runs + length (drop l.run-index l.old) + l.self.room ≤ vec_capacity l.runs;
}
