use Rattle.std.proofs.Common.{◌<◌, slice_set, refl, sym, subst}
use Rattle.std.proofs.lemmas.List.{length-set}
use Rattle.shim_run_state.specs.ProcessLists.{ProcessListsView, Serves}
use Rattle.shim_run_state.specs.Enqueueing.{SetsCheckedOut}
use Rattle.shim_run_state.proofs.ProcessLists.{in_checked_out, still_even}
use Rattle.shim_run_state.proofs.process_lists.ProcessLists.set_out.Goals as goal

pub index_mut-requires : goal.index_mut-requires
index_mut-requires g c =
    let w = c.self.inside in
    let s : ProcessListsView = record { own = w.own.items; event_queue = w.event_queue; ready_queue = w.ready_queue; checked_out = w.checked_out.items } in
    let serves = subst (Serves c.args.table.now) (sym c.self.view_is) c.requires.serves in
    subst (λ z. c.args.number < z) (sym w.checked_out.ok.0) (in_checked_out c.args.table.now s c.self.invariant serves c.args.number c.requires.used)

pub invariant_of-self : goal.invariant_of-self
invariant_of-self g c =
    let w = c.self.inside in
    let s : ProcessListsView = record { own = w.own.items; event_queue = w.event_queue; ready_queue = w.ready_queue; checked_out = w.checked_out.items } in
    let t : ProcessListsView = record { own = w.own.items; event_queue = w.event_queue; ready_queue = w.ready_queue; checked_out = slice_set w.checked_out.items c.args.number c.args.checked_out } in
    still_even s t c.self.invariant refl refl refl (length-set w.checked_out.items c.args.number c.args.checked_out)

pub returns : goal.returns
returns g c =
    let w = c.self.inside in
    let s : ProcessListsView = record { own = w.own.items; event_queue = w.event_queue; ready_queue = w.ready_queue; checked_out = w.checked_out.items } in
    let serves = subst (Serves c.args.table.now) (sym c.self.view_is) c.requires.serves in
    let t : ProcessListsView = record { own = w.own.items; event_queue = w.event_queue; ready_queue = w.ready_queue; checked_out = slice_set w.checked_out.items c.args.number c.args.checked_out } in
    subst (λ z. SetsCheckedOut c.args.number c.args.checked_out z t) c.self.view_is (record { is = refl; within = in_checked_out c.args.table.now s c.self.invariant serves c.args.number c.requires.used })
