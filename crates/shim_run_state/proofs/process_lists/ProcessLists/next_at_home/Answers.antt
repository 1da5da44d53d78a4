use Rattle.std.proofs.Common.{◌<◌, length, refl, sym, subst}
use Rattle.shim_run_state.specs.ProcessLists.{ProcessListsView, Serves}
use Rattle.shim_run_state.specs.Enqueueing.{KeepsQuietListed, IsListedHome, IsButReadyQueue}
use Rattle.shim_run_state.proofs.ProcessLists.{in_checked_out, still_even}
use Rattle.shim_run_state.proofs.process_lists.ProcessLists.next_at_home.Goals as goal

pub first_at_home-requires-after_bounds : goal.first_at_home-requires-after_bounds
first_at_home-requires-after_bounds g t c κs i used =
    let w = t.self.inside in
    let s : ProcessListsView = record { own = w.own.items; event_queue = w.event_queue; ready_queue = w.ready_queue; checked_out = w.checked_out.items } in
    let serves = subst (Serves t.args.table.now) (sym t.self.view_is) t.requires in
    subst (λ z. i < length z) (sym t.as_slice.ensures.value) (in_checked_out t.args.table.now s t.self.invariant serves i used)

pub invariant_of-self : goal.invariant_of-self
invariant_of-self g c =
    let w = c.self.inside in
    let s : ProcessListsView = record { own = w.own.items; event_queue = w.event_queue; ready_queue = w.ready_queue; checked_out = w.checked_out.items } in
    let t : ProcessListsView = record { own = w.own.items; event_queue = w.event_queue; ready_queue = c.first_at_home.new.ready_queue; checked_out = w.checked_out.items } in
    still_even s t c.self.invariant refl refl c.first_at_home.ensures.still.as_many refl

pub returns-clause-still : goal.returns-clause-still
returns-clause-still g c =
    let w = c.self.inside in
    subst (λ (z : ProcessListsView). KeepsQuietListed g.L.Local.ops c.args.table.now z.checked_out z.ready_queue c.first_at_home.new.ready_queue) c.self.view_is
    (subst (λ z. KeepsQuietListed g.L.Local.ops c.args.table.now z w.ready_queue c.first_at_home.new.ready_queue) c.as_slice.ensures.value c.first_at_home.ensures.still)

pub returns-clause-first : goal.returns-clause-first
returns-clause-first g c =
    subst (λ (z : ProcessListsView). IsListedHome g.L.Local.ops c.args.table.now z.checked_out c.first_at_home.new.ready_queue c.first_at_home.result) c.self.view_is
    (subst (λ z. IsListedHome g.L.Local.ops c.args.table.now z c.first_at_home.new.ready_queue c.first_at_home.result) c.as_slice.ensures.value c.first_at_home.ensures.first)

pub returns-clause-rest : goal.returns-clause-rest
returns-clause-rest g c =
    let w = c.self.inside in
    subst (λ z. IsButReadyQueue z (record { own = w.own.items; event_queue = w.event_queue; ready_queue = c.first_at_home.new.ready_queue; checked_out = w.checked_out.items })) c.self.view_is refl
