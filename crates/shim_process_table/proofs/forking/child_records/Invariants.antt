use Rattle.shim_process_table.proofs.NewRecords.{AreOfFirst}
use Rattle.shim_process_table.proofs.forking.child_records.Given as goal

abbrev pub invariant-loop-i : goal.invariant-loop-i
invariant-loop-i g l = AreOfFirst g.L.Local.ops l.parent l.children l.i l.records.items
