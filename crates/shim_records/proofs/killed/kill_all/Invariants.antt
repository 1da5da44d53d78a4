use Rattle.shim_records.proofs.AllKilled.{SoFar}
use Rattle.shim_records.proofs.killed.kill_all.Given as goal

abbrev pub invariant-loop-place : goal.invariant-loop-place
invariant-loop-place g l = SoFar g.L.Local.ops l.process l.forks l.at l.initial.records.items l.place l.records.items
