use Rattle.std.proofs.Common.{false, refl, subst}
use Rattle.shim_run_state.specs.ProcessLists.{ProcessListsView}
use Rattle.shim_records.specs.Waiting.{AreGrown}
use Rattle.shim_run_state.specs.Room.{IsLonger, IsRoomier}
use Rattle.shim_run_state.proofs.Rooms.{not_longer}
use Rattle.shim_run_state.proofs.ProcessLists.{longer, longer_even, grown_even}
use Rattle.shim_run_state.proofs.process_lists.ProcessLists.grow_to.Goals as goal

pub invariant_of-self : goal.invariant_of-self
invariant_of-self c =
    let w = c.self.inside in
    let s : ProcessListsView = record { own = w.own.items; event_queue = w.event_queue; ready_queue = w.ready_queue; checked_out = w.checked_out.items } in
    let all_out : IsLonger false w.checked_out.items c.grow_flags.new.flags.items = c.grow_flags.ensures.longer in
    let event_queues : AreGrown w.event_queue w.event_queue = not_longer false w.event_queue w.event_queue refl in
    let ready_queues : AreGrown w.ready_queue w.ready_queue = not_longer false w.ready_queue w.ready_queue refl in
    let t : ProcessListsView = record { own = w.own.items; event_queue = w.event_queue; ready_queue = w.ready_queue; checked_out = c.grow_flags.new.flags.items } in
    longer_even s t c.self.invariant refl (longer false w.event_queue t.event_queue event_queues) (longer false w.ready_queue t.ready_queue ready_queues) (longer false w.checked_out.items t.checked_out all_out)

pub invariant_of-self-in_err-grow_to : goal.invariant_of-self-in_err-grow_to
invariant_of-self-in_err-grow_to c =
    let w = c.self.inside in
    let s : ProcessListsView = record { own = w.own.items; event_queue = w.event_queue; ready_queue = w.ready_queue; checked_out = w.checked_out.items } in
    let all_out : IsLonger false w.checked_out.items c.grow_flags.new.flags.items = c.grow_flags.ensures.longer in
    let event_queues : AreGrown w.event_queue c.grow_to.new.self = c.grow_to.ensures.raised in
    let ready_queues : AreGrown w.ready_queue w.ready_queue = not_longer false w.ready_queue w.ready_queue refl in
    let t : ProcessListsView = record { own = w.own.items; event_queue = c.grow_to.new.self; ready_queue = w.ready_queue; checked_out = c.grow_flags.new.flags.items } in
    longer_even s t c.self.invariant refl (longer false w.event_queue t.event_queue event_queues) (longer false w.ready_queue t.ready_queue ready_queues) (longer false w.checked_out.items t.checked_out all_out)

pub invariant_of-self-in_err-grow_to-2 : goal.invariant_of-self-in_err-grow_to-2
invariant_of-self-in_err-grow_to-2 c =
    let w = c.self.inside in
    let s : ProcessListsView = record { own = w.own.items; event_queue = w.event_queue; ready_queue = w.ready_queue; checked_out = w.checked_out.items } in
    let all_out : IsLonger false w.checked_out.items c.grow_flags.new.flags.items = c.grow_flags.ensures.longer in
    let event_queues : AreGrown w.event_queue c.grow_to.new.self = c.grow_to.ensures.raised in
    let ready_queues : AreGrown w.ready_queue c.grow_to-2.new.self = c.grow_to-2.ensures.raised in
    let t : ProcessListsView = record { own = w.own.items; event_queue = c.grow_to.new.self; ready_queue = c.grow_to-2.new.self; checked_out = c.grow_flags.new.flags.items } in
    longer_even s t c.self.invariant refl (longer false w.event_queue t.event_queue event_queues) (longer false w.ready_queue t.ready_queue ready_queues) (longer false w.checked_out.items t.checked_out all_out)

pub invariant_of-self-in_err-grow_counts : goal.invariant_of-self-in_err-grow_counts
invariant_of-self-in_err-grow_counts c =
    let w = c.self.inside in
    let s : ProcessListsView = record { own = w.own.items; event_queue = w.event_queue; ready_queue = w.ready_queue; checked_out = w.checked_out.items } in
    let all_out : IsLonger false w.checked_out.items c.grow_flags.new.flags.items = c.grow_flags.ensures.longer in
    let event_queues : AreGrown w.event_queue c.grow_to.new.self = c.grow_to.ensures.raised in
    let ready_queues : AreGrown w.ready_queue c.grow_to-2.new.self = c.grow_to-2.ensures.raised in
    let t : ProcessListsView = record { own = c.grow_counts.new.own.items; event_queue = c.grow_to.new.self; ready_queue = c.grow_to-2.new.self; checked_out = c.grow_flags.new.flags.items } in
    grown_even s t c.args.end c.self.invariant c.grow_counts.ensures.grows c.grow_counts.ensures.stays c.in_ok-grow_to.ensures.ok c.in_ok-grow_to-2.ensures.ok c.in_ok-grow_flags.ensures.ok (longer false w.event_queue t.event_queue event_queues) (longer false w.ready_queue t.ready_queue ready_queues) (longer false w.checked_out.items t.checked_out all_out)

pub invariant_of-self-2 : goal.invariant_of-self-2
invariant_of-self-2 c =
    let w = c.self.inside in
    let s : ProcessListsView = record { own = w.own.items; event_queue = w.event_queue; ready_queue = w.ready_queue; checked_out = w.checked_out.items } in
    let all_out : IsLonger false w.checked_out.items c.grow_flags.new.flags.items = c.grow_flags.ensures.longer in
    let event_queues : AreGrown w.event_queue c.grow_to.new.self = c.grow_to.ensures.raised in
    let ready_queues : AreGrown w.ready_queue c.grow_to-2.new.self = c.grow_to-2.ensures.raised in
    let t : ProcessListsView = record { own = c.grow_counts.new.own.items; event_queue = c.grow_to.new.self; ready_queue = c.grow_to-2.new.self; checked_out = c.grow_flags.new.flags.items } in
    grown_even s t c.args.end c.self.invariant c.grow_counts.ensures.grows c.grow_counts.ensures.stays c.in_ok-grow_to.ensures.ok c.in_ok-grow_to-2.ensures.ok c.in_ok-grow_flags.ensures.ok (longer false w.event_queue t.event_queue event_queues) (longer false w.ready_queue t.ready_queue ready_queues) (longer false w.checked_out.items t.checked_out all_out)

pub returns-in_err-grow_flags-clause-same : goal.returns-in_err-grow_flags-clause-same
returns-in_err-grow_flags-clause-same c =
    let w = c.self.inside in
    let all_out : IsLonger false w.checked_out.items c.grow_flags.new.flags.items = c.grow_flags.ensures.longer in
    let event_queues : AreGrown w.event_queue w.event_queue = not_longer false w.event_queue w.event_queue refl in
    let ready_queues : AreGrown w.ready_queue w.ready_queue = not_longer false w.ready_queue w.ready_queue refl in
    let owns : IsLonger 0 w.own.items w.own.items = not_longer 0 w.own.items w.own.items refl in
    let t : ProcessListsView = record { own = w.own.items; event_queue = w.event_queue; ready_queue = w.ready_queue; checked_out = c.grow_flags.new.flags.items } in
    subst (λ z. IsRoomier z t) c.self.view_is (record { own = owns; event_queue = event_queues; ready_queue = ready_queues; checked_out = all_out })

pub returns-in_err-grow_to-clause-same : goal.returns-in_err-grow_to-clause-same
returns-in_err-grow_to-clause-same c =
    let w = c.self.inside in
    let all_out : IsLonger false w.checked_out.items c.grow_flags.new.flags.items = c.grow_flags.ensures.longer in
    let event_queues : AreGrown w.event_queue c.grow_to.new.self = c.grow_to.ensures.raised in
    let ready_queues : AreGrown w.ready_queue w.ready_queue = not_longer false w.ready_queue w.ready_queue refl in
    let owns : IsLonger 0 w.own.items w.own.items = not_longer 0 w.own.items w.own.items refl in
    let t : ProcessListsView = record { own = w.own.items; event_queue = c.grow_to.new.self; ready_queue = w.ready_queue; checked_out = c.grow_flags.new.flags.items } in
    subst (λ z. IsRoomier z t) c.self.view_is (record { own = owns; event_queue = event_queues; ready_queue = ready_queues; checked_out = all_out })

pub returns-in_err-grow_to-2-clause-same : goal.returns-in_err-grow_to-2-clause-same
returns-in_err-grow_to-2-clause-same c =
    let w = c.self.inside in
    let all_out : IsLonger false w.checked_out.items c.grow_flags.new.flags.items = c.grow_flags.ensures.longer in
    let event_queues : AreGrown w.event_queue c.grow_to.new.self = c.grow_to.ensures.raised in
    let ready_queues : AreGrown w.ready_queue c.grow_to-2.new.self = c.grow_to-2.ensures.raised in
    let owns : IsLonger 0 w.own.items w.own.items = not_longer 0 w.own.items w.own.items refl in
    let t : ProcessListsView = record { own = w.own.items; event_queue = c.grow_to.new.self; ready_queue = c.grow_to-2.new.self; checked_out = c.grow_flags.new.flags.items } in
    subst (λ z. IsRoomier z t) c.self.view_is (record { own = owns; event_queue = event_queues; ready_queue = ready_queues; checked_out = all_out })

pub returns-in_err-grow_counts-clause-same : goal.returns-in_err-grow_counts-clause-same
returns-in_err-grow_counts-clause-same c =
    let w = c.self.inside in
    let all_out : IsLonger false w.checked_out.items c.grow_flags.new.flags.items = c.grow_flags.ensures.longer in
    let event_queues : AreGrown w.event_queue c.grow_to.new.self = c.grow_to.ensures.raised in
    let ready_queues : AreGrown w.ready_queue c.grow_to-2.new.self = c.grow_to-2.ensures.raised in
    let owns : IsLonger 0 w.own.items c.grow_counts.new.own.items = c.grow_counts.ensures.longer in
    let t : ProcessListsView = record { own = c.grow_counts.new.own.items; event_queue = c.grow_to.new.self; ready_queue = c.grow_to-2.new.self; checked_out = c.grow_flags.new.flags.items } in
    subst (λ z. IsRoomier z t) c.self.view_is (record { own = owns; event_queue = event_queues; ready_queue = ready_queues; checked_out = all_out })

pub returns-clause-same : goal.returns-clause-same
returns-clause-same c =
    let w = c.self.inside in
    let all_out : IsLonger false w.checked_out.items c.grow_flags.new.flags.items = c.grow_flags.ensures.longer in
    let event_queues : AreGrown w.event_queue c.grow_to.new.self = c.grow_to.ensures.raised in
    let ready_queues : AreGrown w.ready_queue c.grow_to-2.new.self = c.grow_to-2.ensures.raised in
    let owns : IsLonger 0 w.own.items c.grow_counts.new.own.items = c.grow_counts.ensures.longer in
    let t : ProcessListsView = record { own = c.grow_counts.new.own.items; event_queue = c.grow_to.new.self; ready_queue = c.grow_to-2.new.self; checked_out = c.grow_flags.new.flags.items } in
    subst (λ z. IsRoomier z t) c.self.view_is (record { own = owns; event_queue = event_queues; ready_queue = ready_queues; checked_out = all_out })
