use Rattle.std.proofs.Common.{◌<◌, refl, sym, subst}
use Rattle.shim_run_state.specs.ProcessLists.{ProcessListsView, Serves}
use Rattle.shim_run_state.specs.Several.{RequeuesEach}
use Rattle.shim_run_state.proofs.ProcessLists.{in_event_queue, in_quiet, still_even}
use Rattle.shim_run_state.proofs.process_lists.ProcessLists.requeue_each.Goals as goal

pub enqueue_all-requires-clause-event_queues : goal.enqueue_all-requires-clause-event_queues
enqueue_all-requires-clause-event_queues g c κs within =
    let w = c.self.inside in
    let s : ProcessListsView = record { own = w.own.items; event_queue = w.event_queue; ready_queue = w.ready_queue; checked_out = w.checked_out.items } in
    let serves = subst (Serves c.args.table.now) (sym c.self.view_is) c.requires.serves in
    in_event_queue c.args.table.now s c.self.invariant serves

pub enqueue_all-requires-clause-ready_queues : goal.enqueue_all-requires-clause-ready_queues
enqueue_all-requires-clause-ready_queues g c κs within =
    let w = c.self.inside in
    let s : ProcessListsView = record { own = w.own.items; event_queue = w.event_queue; ready_queue = w.ready_queue; checked_out = w.checked_out.items } in
    let serves = subst (Serves c.args.table.now) (sym c.self.view_is) c.requires.serves in
    in_quiet c.args.table.now s c.self.invariant serves

pub invariant_of-self : goal.invariant_of-self
invariant_of-self g c =
    let w = c.self.inside in
    let s : ProcessListsView = record { own = w.own.items; event_queue = w.event_queue; ready_queue = w.ready_queue; checked_out = w.checked_out.items } in
    let t : ProcessListsView = record { own = w.own.items; event_queue = c.enqueue_all.new.event_queue; ready_queue = c.enqueue_all.new.ready_queue; checked_out = w.checked_out.items } in
    still_even s t c.self.invariant refl c.enqueue_all.ensures.event_queue.as_many c.enqueue_all.ensures.ready_queue.as_many refl

pub returns : goal.returns
returns g c =
    let o = g.L.Local.ops in
    let v = c.args.table.now in
    let w = c.self.inside in
    let s : ProcessListsView = record { own = w.own.items; event_queue = w.event_queue; ready_queue = w.ready_queue; checked_out = w.checked_out.items } in
    let serves = subst (Serves c.args.table.now) (sym c.self.view_is) c.requires.serves in
    let t : ProcessListsView = record { own = w.own.items; event_queue = c.enqueue_all.new.event_queue; ready_queue = c.enqueue_all.new.ready_queue; checked_out = w.checked_out.items } in
    subst (λ z. RequeuesEach o v c.args.numbers.now z t) c.self.view_is (record {
      own = refl;
      event_queue = c.enqueue_all.ensures.event_queue;
      ready_queue = c.enqueue_all.ensures.ready_queue;
      checked_out = refl;
      within = λ m g. subst (λ z. m < z) (sym c.enqueue_all.ensures.event_queue.as_many) (in_event_queue v s c.self.invariant serves m (c.requires.used m g));
    })
