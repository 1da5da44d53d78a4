use Rattle.shim_process_table.proofs.HereNames.{NameOfRest}
use Rattle.shim_process_table.proofs.process_table.ProcessTable.first_name.Given as goal

abbrev pub invariant-loop-place : goal.invariant-loop-place
invariant-loop-place g l = NameOfRest g.L.Local.ops l.c.channel l.self l.sharers-inside.numbers.items l.place
