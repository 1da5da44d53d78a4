use Rattle.std.proofs.Common.{sym, ◌∙◌}
use Rattle.shim_laws_table_events.specs.queues.RecordDecisions.{waits}
use Rattle.shim_process_table.proofs.QueueFacts.{next_alone, not_at_quiet}
use Rattle.shim_process_table.proofs.queue.queue_at.Goals as goal

pub returns-then-declares : goal.returns-then-declares
returns-then-declares g c v i f has at = not_at_quiet g.L.Local.ops v i f c.args.process.now has (λ e. next_alone c.args.chan.now (sym at ∙ e))

pub returns-else-declares : goal.returns-else-declares
returns-else-declares g c v i f has at = (waits f c.args.process.now c.args.chan.now has at (c.declares.ensures.other c.if-declares.false), not_at_quiet g.L.Local.ops v i f c.args.process.now has (λ e. next_alone c.args.chan.now (sym at ∙ e)))
