use Rattle.std.proofs.Common.{sym}
use Rattle.shim_process_table.proofs.queue.queue_alone.Goals as goal

pub returns-in-Quiet : goal.returns-in-Quiet
returns-in-Quiet g c v i f has = (f, c.args.process.now, has, sym c.in-Quiet.ensures)

pub returns-in-Next : goal.returns-in-Next
returns-in-Next g c v i f has = c.queue_at.ensures v i f has (sym c.in-Next.ensures)
