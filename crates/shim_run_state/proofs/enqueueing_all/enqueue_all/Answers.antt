use Rattle.std.proofs.Common.{arith}
use Rattle.std.proofs.lemmas.Option.{slice_get-get_or}
use Rattle.shim_run_state.proofs.EnqueuesAll.{still_long, one_listed, one_quiet, all_listed, all_quiet}
use Rattle.shim_run_state.proofs.enqueueing_all.enqueue_all.Goals as goal

pub enqueue-requires-clause-event_queues : goal.enqueue-requires-clause-event_queues
enqueue-requires-clause-event_queues g c κs within = still_long c.args.table.now c.args.event_queue.now c.loop-place.event_queue c.loop-place.invariant.0.as_many c.requires.event_queues

pub enqueue-requires-clause-ready_queues : goal.enqueue-requires-clause-ready_queues
enqueue-requires-clause-ready_queues g c κs within = still_long c.args.table.now c.args.ready_queue.now c.loop-place.ready_queue c.loop-place.invariant.1.as_many c.requires.ready_queues

pub loop-place-preserved : goal.loop-place-preserved
loop-place-preserved g c =
    let o = g.L.Local.ops in
    let v = c.args.table.now in
    let numbers = c.args.numbers.now in
    let there = slice_get-get_or numbers c.loop-place.place 0 c.loop-place-test.true in (
      one_listed o v numbers c.loop-place.place _ there c.args.event_queue.now c.loop-place.event_queue c.enqueue.new.event_queue c.loop-place.invariant.0 c.enqueue.ensures.event_queue,
      one_quiet o v numbers c.loop-place.place _ there c.args.ready_queue.now c.loop-place.ready_queue c.enqueue.new.ready_queue c.loop-place.invariant.1 c.enqueue.ensures.ready_queue,
    )

pub returns-clause-event_queue : goal.returns-clause-event_queue
returns-clause-event_queue g c = all_listed g.L.Local.ops c.args.table.now c.args.numbers.now c.loop-place.place (omega (arith, c.loop-place-test.false)) c.args.event_queue.now c.loop-place.event_queue c.loop-place.invariant.0

pub returns-clause-ready_queue : goal.returns-clause-ready_queue
returns-clause-ready_queue g c = all_quiet g.L.Local.ops c.args.table.now c.args.numbers.now c.loop-place.place (omega (arith, c.loop-place-test.false)) c.args.ready_queue.now c.loop-place.ready_queue c.loop-place.invariant.1
