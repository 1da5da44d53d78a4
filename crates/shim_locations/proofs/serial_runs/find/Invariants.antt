use Rattle.std.proofs.Common.{◌≡◌, drop}
use Rattle.shim_process.specs.SerialRuns.{is_in_runs}
use Rattle.shim_locations.proofs.serial_runs.find.Given as goal

abbrev pub invariant-loop-index : goal.invariant-loop-index
invariant-loop-index l = is_in_runs l.serial (drop l.index l.runs) ≡ is_in_runs l.serial l.runs
