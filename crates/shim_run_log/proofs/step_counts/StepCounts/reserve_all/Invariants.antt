use Rattle.shim_run_log.proofs.ReservedAll.{PlacedSoFar}
use Rattle.shim_run_log.proofs.step_counts.StepCounts.reserve_all.Given as goal

abbrev pub invariant-loop-process : goal.invariant-loop-process
invariant-loop-process g l = PlacedSoFar g.L.Local.ops l.processes l.initial.self l.self l.process-index
