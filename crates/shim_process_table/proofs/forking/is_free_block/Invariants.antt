use Rattle.shim_process_table.proofs.FreeRecords.{AreFree}
use Rattle.shim_process_table.proofs.forking.is_free_block.Given as goal

abbrev pub invariant-loop-at : goal.invariant-loop-at
invariant-loop-at l = AreFree l.first l.at l.records
