use Rattle.shim_process_table.proofs.HerePoisons.{KilledSoFar}
use Rattle.shim_process_table.proofs.TouchingMeets.{TouchedSoFar}
use Rattle.shim_process_table.proofs.process_table.ProcessTable.kill_each.Given as goal

abbrev pub invariant-loop-place : goal.invariant-loop-place
invariant-loop-place g l = KilledSoFar g.L.Local.ops l.label l.sharers-inside.numbers.items l.place l.initial.self l.self × TouchedSoFar l.sharers-inside.numbers.items l.place l.initial.self l.self
