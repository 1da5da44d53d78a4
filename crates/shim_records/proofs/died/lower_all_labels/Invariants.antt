use Rattle.shim_records.proofs.AllLowered.{SoFar}
use Rattle.shim_records.proofs.died.lower_all_labels.Given as goal

abbrev pub invariant-loop-place : goal.invariant-loop-place
invariant-loop-place g l = SoFar g.L.Local.ops l.process l.label l.forks l.at l.initial.records.items l.place l.records.items
