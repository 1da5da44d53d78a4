use Rattle.shim_process_table.proofs.ClosingLabels.{SoFar}
use Rattle.shim_process_table.proofs.closing.recompute_all.Given as goal

abbrev pub invariant-loop-place : goal.invariant-loop-place
invariant-loop-place g l = SoFar g.L.Local.ops l.states l.forks l.at l.process l.initial.records.items l.place l.records.items
