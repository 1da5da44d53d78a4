use Rattle.shim_process_table.proofs.Parents.{IsQueue}
use Rattle.shim_process_table.proofs.process_table.ProcessTable.list_above.Given as goal

abbrev pub invariant-loop-walked : goal.invariant-loop-walked
invariant-loop-walked g l = IsQueue g.L.Local.ops l.self l.number l.fn.list l.list l.here l.walked
