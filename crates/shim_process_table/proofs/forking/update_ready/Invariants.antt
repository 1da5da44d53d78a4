use Rattle.shim_process_table.specs.Touching.{ChangesOnlyRecords}
use Rattle.shim_process_table.proofs.ReadyWays.{OnTheWays}
use Rattle.shim_process_table.proofs.forking.update_ready.Given as goal

abbrev pub invariant-loop-i : goal.invariant-loop-i
invariant-loop-i l = OnTheWays l.at l.chans l.i l.initial.records.items l.records.items × ChangesOnlyRecords l.furthest l.at l.initial.records.items l.records.items
