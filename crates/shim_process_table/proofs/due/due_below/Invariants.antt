use Rattle.shim_process_table.proofs.DueFacts.{IdleBefore}
use Rattle.shim_process_table.proofs.due.due_below.Given as goal

abbrev pub invariant-loop-place : goal.invariant-loop-place
invariant-loop-place g l = IdleBefore g.L.Local.ops (record { states = l.states; records = l.records }) l.process l.fork.first l.count l.fork.pairs.items l.place
