-- In which queue a process belongs.
use Rattle.std.specs.Prelude.{ℕ, false}
use Rattle.shim_local.specs.Process.{Ops, AtQuiet}
use Rattle.shim_laws_table_events.specs.keeping.Tables.{TableView}
use Rattle.shim_laws_table_events.specs.queues.RecordDecisions.{HasNothingDue}
use Rattle.shim_process_table.specs.Stepping.{LivesAt, IsBeforeQuiet}
use Rattle.shim_process_table.specs.declared.queue.Queue.{Queue}
use Rattle.shim_process_table.specs.declared.queue.Queue.TheVariants as code

-- What the queue means for the process with this number. `Event` means only that the process isn't before a quiet step: perhaps nothing is due at it.
abbrev pub QueueIs : {S : Type 0} → Ops S → TableView S → ℕ → Queue → Type 0
QueueIs o v i code.Neither = HasNothingDue o v i × IsBeforeQuiet o i v false
QueueIs o v i code.Ready = LivesAt o v i AtQuiet
QueueIs o v i code.Event = IsBeforeQuiet o i v false
