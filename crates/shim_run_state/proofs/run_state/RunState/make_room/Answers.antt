use Rattle.std.proofs.Common.{subst}
use Rattle.shim_run_log.specs.Logged.{logged}
use Rattle.shim_run_state.specs.Fields.{view_of}
use Rattle.shim_run_state.specs.Room.{HasMoreRoom}
use Rattle.shim_run_state.proofs.CheckedOut.{with_process_lists}
use Rattle.shim_run_state.proofs.Rooms.{more_room, room_keeps, room_steps}
use Rattle.shim_run_state.proofs.run_state.RunState.make_room.Goals as goal

pub invariant_of-self : goal.invariant_of-self
invariant_of-self g c =
    let o = g.L.Local.ops in
    let w = c.self.inside in
    let v = view_of w.begun.value w.table w.output.items w.histories (logged w.logs.items) w.process_lists w.past.items w.events in
    (room_keeps o v c.grow_to.new.self c.grow_to.ensures.same c.self.invariant.0, room_steps o v c.grow_to.new.self c.grow_to.ensures.same w.taken c.self.invariant.1)

pub invariant_of-self-2 : goal.invariant_of-self-2
invariant_of-self-2 g c =
    let o = g.L.Local.ops in
    let w = c.self.inside in
    let v = view_of w.begun.value w.table w.output.items w.histories (logged w.logs.items) w.process_lists w.past.items w.events in
    (room_keeps o v c.grow_to.new.self c.grow_to.ensures.same c.self.invariant.0, room_steps o v c.grow_to.new.self c.grow_to.ensures.same w.taken c.self.invariant.1)

pub returns-clause-same : goal.returns-clause-same
returns-clause-same g c =
    let o = g.L.Local.ops in
    let w = c.self.inside in
    let v = view_of w.begun.value w.table w.output.items w.histories (logged w.logs.items) w.process_lists w.past.items w.events in
    subst (λ z. HasMoreRoom z (with_process_lists v c.grow_to.new.self)) c.self.view_is (more_room o v c.grow_to.new.self c.grow_to.ensures.same)
