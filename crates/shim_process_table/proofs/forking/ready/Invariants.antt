use Rattle.std.proofs.Common.{◌≡◌, ◌++◌, drop}
use Rattle.shim_records.specs.Fresh.{channels}
use Rattle.shim_laws_table_events.specs.forks.Forking.{ready_chans}
use Rattle.shim_process_table.proofs.forking.ready.Given as goal

abbrev pub invariant-loop-i : goal.invariant-loop-i
invariant-loop-i l = channels l.chans.items ++ ready_chans (drop l.i l.pairs) ≡ ready_chans l.pairs
