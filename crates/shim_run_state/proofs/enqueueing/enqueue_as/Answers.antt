use Rattle.shim_run_state.proofs.Enqueued.{event_listed, quiet_listed, put_long}
use Rattle.shim_run_state.proofs.EnqueuesAll.{still_long}
use Rattle.shim_run_state.proofs.enqueueing.enqueue_as.Goals as goal

pub put_in-requires-clause-event_queues : goal.put_in-requires-clause-event_queues
put_in-requires-clause-event_queues g c = c.requires.event_queues c.args.number c.requires.used

pub put_in-requires-clause-ready_queues : goal.put_in-requires-clause-ready_queues
put_in-requires-clause-ready_queues g c = c.requires.ready_queues c.args.number c.requires.used

pub list_above-requires-clause-room : goal.list_above-requires-clause-room
list_above-requires-clause-room g c κs within =
    still_long c.args.table.now c.args.event_queue.now c.put_in.new.event_queue (put_long c.args.to_requeue.queue c.args.number c.args.event_queue.now c.args.ready_queue.now c.put_in.new.event_queue c.put_in.new.ready_queue c.put_in.ensures) c.requires.event_queues

pub returns-clause-event_queue : goal.returns-clause-event_queue
returns-clause-event_queue g c =
    event_listed g.L.Local.ops c.args.table.now c.args.number c.args.to_requeue.forks c.args.to_requeue.queue c.args.event_queue.now c.args.ready_queue.now c.put_in.new.event_queue c.put_in.new.ready_queue c.list_above.new.list c.requires.queue c.put_in.ensures (c.requires.event_queues c.args.number c.requires.used) c.list_above.ensures

pub returns-clause-ready_queue : goal.returns-clause-ready_queue
returns-clause-ready_queue g c =
    quiet_listed g.L.Local.ops c.args.table.now c.args.number c.args.to_requeue.queue c.args.event_queue.now c.args.ready_queue.now c.put_in.new.event_queue c.put_in.new.ready_queue c.requires.queue c.put_in.ensures (c.requires.ready_queues c.args.number c.requires.used)
