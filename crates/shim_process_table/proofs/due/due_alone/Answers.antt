use Rattle.std.proofs.Common.{sym}
use Rattle.shim_laws_table_events.specs.queues.RecordDecisions.{is_quiet, waits}
use Rattle.shim_process_table.proofs.due.due_alone.Goals as goal

pub returns-in-Quiet : goal.returns-in-Quiet
returns-in-Quiet g c v i f has = is_quiet f c.args.process.now has (sym c.in-Quiet.ensures)

pub returns-else-declares : goal.returns-else-declares
returns-else-declares g c v i f has = waits f c.args.process.now c.in-Next.chan.now has (sym c.in-Next.ensures) (c.declares.ensures.other c.if-declares.false)
