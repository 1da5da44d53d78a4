use Rattle.std.proofs.Common.{refl, subst}
use Rattle.shim_run_state.specs.ProcessLists.{ProcessListsView}
use Rattle.shim_run_state.specs.Settling.{KeepsEventsListed}
use Rattle.shim_run_state.specs.Enqueueing.{IsButEventQueue}
use Rattle.shim_run_state.proofs.ProcessLists.{still_even}
use Rattle.shim_run_state.proofs.process_lists.ProcessLists.next_due.Goals as goal

pub invariant_of-self : goal.invariant_of-self
invariant_of-self g c =
    let w = c.self.inside in
    let s : ProcessListsView = record { own = w.own.items; event_queue = w.event_queue; ready_queue = w.ready_queue; checked_out = w.checked_out.items } in
    let t : ProcessListsView = record { own = w.own.items; event_queue = c.first_due.new.event_queue; ready_queue = w.ready_queue; checked_out = w.checked_out.items } in
    still_even s t c.self.invariant refl c.first_due.ensures.still.as_many refl refl

pub returns-clause-still : goal.returns-clause-still
returns-clause-still g c = subst (λ (z : ProcessListsView). KeepsEventsListed g.L.Local.ops c.args.table.now z.event_queue c.first_due.new.event_queue) c.self.view_is c.first_due.ensures.still

pub returns-clause-rest : goal.returns-clause-rest
returns-clause-rest g c =
    let w = c.self.inside in
    subst (λ z. IsButEventQueue z (record { own = w.own.items; event_queue = c.first_due.new.event_queue; ready_queue = w.ready_queue; checked_out = w.checked_out.items })) c.self.view_is refl
