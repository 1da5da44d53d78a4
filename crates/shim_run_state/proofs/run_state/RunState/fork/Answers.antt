use Rattle.std.proofs.Common.{◌≡◌, ◌<◌, ◌+◌, length, Some, sym, ap, subst, ◌∙◌, rules}
use Rattle.std.specs.Prelude.{slice_get}
use Rattle.shim_base.proofs.Facts.{at_fault}
use Rattle.shim_semantics.specs.Trees.{Own, steps}
use Rattle.shim_laws_table.specs.NodeStatus.{lives}
use Rattle.shim_laws_table_events.specs.keeping.Tables.{HasProcessState}
use Rattle.shim_process_table.specs.Forking.{forked_count}
use Rattle.shim_run_state.specs.CheckingOut.{HappensIn}
use Rattle.shim_run_state.specs.Room.{HasRoomFor}
use Rattle.shim_run_state.specs.Settling.{StaysAs}
use Rattle.shim_run_state.proofs.Rooms.{same_tree, stays_so, happens_before, stays_before}
use Rattle.shim_run_state.proofs.run_state.RunState.fork.Goals as goal

pub returns-in_err-make_room-clause-err : goal.returns-in_err-make_room-clause-err
returns-in_err-make_room-clause-err g c =
    let o = g.L.Local.ops in
    let v = c.args.self.now in
    let m = c.make_room.new.self in
    let same = c.make_room.ensures.same in
    at_fault c.from_residual-in_err-make_room.result (StaysAs o v m) (stays_so o v m same)

pub put_fork-requires-clause-few : goal.put_fork-requires-clause-few
put_fork-requires-clause-few g c κs within =
    let o = g.L.Local.ops in
    let v = c.args.self.now in
    let m = c.make_room.new.self in
    let same = c.make_room.ensures.same in
    subst (λ z. steps z < 4000000) (sym (same_tree o v m same)) c.requires.few

pub put_fork-requires-clause-room : goal.put_fork-requires-clause-room
put_fork-requires-clause-room g c κs within =
    let m = c.make_room.new.self in
    let same = c.make_room.ensures.same in
    let sum : c.in_ok-end.end ≡ c.len.result + c.count.result = search rules in
    let long : c.len.result ≡ length m.table.records = c.len.ensures ∙ (ap (λ z. length z.table.records) c.self.view_is ∙ ap (λ z. length z.records) (sym same.table)) in
    let end : c.in_ok-end.end ≡ length m.table.records + forked_count c.in_ok-fork.fork.came = sum ∙ (λ j. long j + c.count.ensures j) in
    subst (λ z. HasRoomFor z m.process_lists) end c.in_ok-make_room.ensures.ok

pub returns-in_err-put_fork-clause-err : goal.returns-in_err-put_fork-clause-err
returns-in_err-put_fork-clause-err g c =
    let o = g.L.Local.ops in
    let v = c.args.self.now in
    let m = c.make_room.new.self in
    let same = c.make_room.ensures.same in
    at_fault c.from_residual-in_err-put_fork.result (StaysAs o v c.put_fork.new.self) (stays_before o v m c.put_fork.new.self (stays_so o v m same) c.in_err-put_fork.ensures.err)

pub returns-clause-ok : goal.returns-clause-ok
returns-clause-ok g c =
    let o = g.L.Local.ops in
    let v = c.args.self.now in
    let m = c.make_room.new.self in
    let same = c.make_room.ensures.same in
    let s = c.requires.lives_at in
    let there = subst (λ z. slice_get z.table.states c.args.number ≡ Some s.1) (sym c.self.view_is) s.2.state_is in
    let copied : c.in_ok-copy.field-0 ≡ c.path.result.now = search rules in
    let path : o.path s.1 ≡ c.in_ok-copy.field-0 = sym (copied ∙ c.path.ensures s.1 there) in
    let mine : HasProcessState m.table c.args.number s.0 s.1 lives = subst (λ z. HasProcessState z c.args.number s.0 s.1 lives) (sym same.table) s.2 in
    subst (λ z. HappensIn o v c.put_fork.new.self (Own z)) path (happens_before o v m c.put_fork.new.self (Own (o.path s.1)) (stays_so o v m same) (c.in_ok-put_fork.ensures.ok s.0 s.1 mine))
