use Rattle.std.proofs.Common.{◌≤◌, ◌+◌, length, refl, sym, subst, arith}
use Rattle.shim_run_state.specs.ProcessLists.{ProcessListsView}
use Rattle.shim_run_state.specs.Room.{HasNewChildren}
use Rattle.shim_run_state.proofs.ProcessLists.{new_children, children_even}
use Rattle.shim_run_state.proofs.process_lists.ProcessLists.add_children.Goals as goal

pub begin_counts-requires : goal.begin_counts-requires
begin_counts-requires c =
    let w = c.self.inside in
    let within = subst (λ (z : ProcessListsView). c.args.first + c.args.count ≤ length z.own) (sym c.self.view_is) c.requires.within in
    let e = w.own.ok.0 in
    omega (arith, within, e)

pub list_block-requires-clause-within : goal.list_block-requires-clause-within
list_block-requires-clause-within c =
    let within = subst (λ (z : ProcessListsView). c.args.first + c.args.count ≤ length z.own) (sym c.self.view_is) c.requires.within in
    let more = c.self.invariant.event_queue in
    omega (arith, within, more)

pub list_block-requires-2-clause-within : goal.list_block-requires-2-clause-within
list_block-requires-2-clause-within c =
    let within = subst (λ (z : ProcessListsView). c.args.first + c.args.count ≤ length z.own) (sym c.self.view_is) c.requires.within in
    let more = c.self.invariant.ready_queue in
    omega (arith, within, more)

pub invariant_of-self : goal.invariant_of-self
invariant_of-self c =
    let w = c.self.inside in
    let s : ProcessListsView = record { own = w.own.items; event_queue = w.event_queue; ready_queue = w.ready_queue; checked_out = w.checked_out.items } in
    let within = subst (λ (z : ProcessListsView). c.args.first + c.args.count ≤ length z.own) (sym c.self.view_is) c.requires.within in
    let t : ProcessListsView = record { own = c.begin_counts.new.own.items; event_queue = c.list_block.new.list; ready_queue = c.list_block-2.new.list; checked_out = w.checked_out.items } in
    children_even c.args.first c.args.count s t c.self.invariant within (new_children c.args.first c.args.count s t c.self.invariant within c.begin_counts.ensures c.list_block.ensures c.list_block-2.ensures refl)

pub returns : goal.returns
returns c =
    let w = c.self.inside in
    let s : ProcessListsView = record { own = w.own.items; event_queue = w.event_queue; ready_queue = w.ready_queue; checked_out = w.checked_out.items } in
    let within = subst (λ (z : ProcessListsView). c.args.first + c.args.count ≤ length z.own) (sym c.self.view_is) c.requires.within in
    let t : ProcessListsView = record { own = c.begin_counts.new.own.items; event_queue = c.list_block.new.list; ready_queue = c.list_block-2.new.list; checked_out = w.checked_out.items } in
    subst (λ z. HasNewChildren c.args.first c.args.count z t) c.self.view_is (new_children c.args.first c.args.count s t c.self.invariant within c.begin_counts.ensures c.list_block.ensures c.list_block-2.ensures refl)
