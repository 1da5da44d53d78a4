use Rattle.shim_process_table.proofs.ReadyChildren.{NoneBefore}
use Rattle.shim_process_table.proofs.looking.first_ready.Given as goal

abbrev pub invariant-loop-branch : goal.invariant-loop-branch
invariant-loop-branch g l = NoneBefore g.L.Local.ops l.c.channel l.states l.records l.first l.branch
