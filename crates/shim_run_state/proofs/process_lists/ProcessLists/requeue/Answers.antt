use Rattle.std.proofs.Common.{◌<◌, refl, sym, ap, subst}
use Rattle.shim_run_state.specs.ProcessLists.{ProcessListsView, Serves}
use Rattle.shim_run_state.specs.Enqueueing.{Requeues}
use Rattle.shim_run_state.proofs.ProcessLists.{in_event_queue, in_quiet, still_even}
use Rattle.shim_run_state.proofs.process_lists.ProcessLists.requeue.Goals as goal

pub enqueue_as-requires-clause-event_queues : goal.enqueue_as-requires-clause-event_queues
enqueue_as-requires-clause-event_queues g c κs within =
    let w = c.self.inside in
    let s : ProcessListsView = record { own = w.own.items; event_queue = w.event_queue; ready_queue = w.ready_queue; checked_out = w.checked_out.items } in
    let serves = subst (Serves c.args.table.now) (sym c.self.view_is) c.requires.serves in
    in_event_queue c.args.table.now s c.self.invariant serves

pub enqueue_as-requires-clause-ready_queues : goal.enqueue_as-requires-clause-ready_queues
enqueue_as-requires-clause-ready_queues g c κs within =
    let w = c.self.inside in
    let s : ProcessListsView = record { own = w.own.items; event_queue = w.event_queue; ready_queue = w.ready_queue; checked_out = w.checked_out.items } in
    let serves = subst (Serves c.args.table.now) (sym c.self.view_is) c.requires.serves in
    in_quiet c.args.table.now s c.self.invariant serves

pub invariant_of-self : goal.invariant_of-self
invariant_of-self g c =
    let w = c.self.inside in
    let s : ProcessListsView = record { own = w.own.items; event_queue = w.event_queue; ready_queue = w.ready_queue; checked_out = w.checked_out.items } in
    let t : ProcessListsView = record { own = w.own.items; event_queue = c.enqueue_as.new.event_queue; ready_queue = c.enqueue_as.new.ready_queue; checked_out = w.checked_out.items } in
    still_even s t c.self.invariant refl c.enqueue_as.ensures.event_queue.as_many c.enqueue_as.ensures.ready_queue.as_many refl

pub returns-clause-own : goal.returns-clause-own
returns-clause-own g c = ap (λ (z : ProcessListsView). z.own) c.self.view_is

pub returns-clause-requeues : goal.returns-clause-requeues
returns-clause-requeues g c =
    let o = g.L.Local.ops in
    let v = c.args.table.now in
    let w = c.self.inside in
    let s : ProcessListsView = record { own = w.own.items; event_queue = w.event_queue; ready_queue = w.ready_queue; checked_out = w.checked_out.items } in
    let serves = subst (Serves c.args.table.now) (sym c.self.view_is) c.requires.serves in
    let t : ProcessListsView = record { own = w.own.items; event_queue = c.enqueue_as.new.event_queue; ready_queue = c.enqueue_as.new.ready_queue; checked_out = w.checked_out.items } in
    subst (λ z. Requeues o v c.args.to_requeue.forks c.args.number z t) c.self.view_is (record {
      event_queue = c.enqueue_as.ensures.event_queue;
      ready_queue = c.enqueue_as.ensures.ready_queue;
      checked_out = refl;
      within = subst (λ z. c.args.number < z) (sym c.enqueue_as.ensures.event_queue.as_many) (in_event_queue v s c.self.invariant serves c.args.number c.requires.used);
    })
