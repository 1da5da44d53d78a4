use Rattle.shim_process_table.proofs.Finding.{FoundSoFar}
use Rattle.shim_process_table.proofs.process_table.ProcessTable.sharers.Given as goal

abbrev pub invariant-loop-looked : goal.invariant-loop-looked
invariant-loop-looked g l = FoundSoFar g.L.Local.ops l.self l.c.channel l.number l.sharers-inside.numbers.items l.sharers-inside.ahead.items
