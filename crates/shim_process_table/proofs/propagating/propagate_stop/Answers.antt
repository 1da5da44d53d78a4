use Rattle.std.proofs.Common.{sym}
use Rattle.shim_laws_table_events.specs.keeping.Propagating.{there}
use Rattle.shim_process_table.proofs.Readied.{came_there}
use Rattle.shim_process_table.proofs.propagating.propagate_stop.Goals as goal

pub returns-in-Next-clause-propagates : goal.returns-in-Next-clause-propagates
returns-in-Next-clause-propagates g c = let way = c.propagate_stop_above-forks.ensures.counts in there c.in-Next.chan.now way.0 way.1 (sym c.in-Next.ensures) way.2 way.3 way.4

pub returns-in-Next-clause-newly_ready : goal.returns-in-Next-clause-newly_ready
returns-in-Next-clause-newly_ready g c =
    let come = c.propagate_stop_above-forks in
    came_there g.L.Local.ops c.args.process.now c.in-Next.chan.now come.result c.args.at c.args.records.now.items come.new.records.items (sym c.in-Next.ensures) come.ensures.counts.4.1 come.ensures.readies

pub returns-in-Next-clause-queue : goal.returns-in-Next-clause-queue
returns-in-Next-clause-queue g c v i f has = c.queue_at.ensures v i f has (sym c.in-Next.ensures)

pub returns-in-Quiet-clause-queue : goal.returns-in-Quiet-clause-queue
returns-in-Quiet-clause-queue g c v i f has = (f, c.args.process.now, has, sym c.in-Quiet.ensures)
