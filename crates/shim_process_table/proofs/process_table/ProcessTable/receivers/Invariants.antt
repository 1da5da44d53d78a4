use Rattle.shim_process_table.proofs.Visiting.{VisitedSoFar}
use Rattle.shim_process_table.proofs.process_table.ProcessTable.receivers.Given as goal

abbrev pub invariant-loop-visited : goal.invariant-loop-visited
invariant-loop-visited g l = VisitedSoFar l.self l.c.channel l.number l.sharers-inside.numbers.items l.sharers-inside.ahead.items
