use Rattle.std.proofs.Common.{◌<◌, arith, sym, ap, subst, slice_index_or, length, ◌∙◌, map}
use denote.Param.Send.{param_sync, struct_sync, shr_sync, sendable}
use Rattle.shim_board.proofs.board.Board.TheSendSync as boards
use Rattle.shim_board.proofs.chair.Chair.TheSendSync as chairs
use Rattle.shim_net.proofs.Sends.{net_send}
use Rattle.shim_workers.proofs.load.Load.TheSendSync as loads
use Rattle.shim_workers.proofs.pieces.Pieces.TheSendSync as pieces
use Rattle.shim_workers.proofs.shared_state.SharedState.TheSendSync as pools
use Rattle.shim_workers.proofs.Starting.{mapped_length, mapped_at}
use Rattle.shim_board.specs.Chairs.{AreAll, IsIdleOn, StandsAs}
use Rattle.shim_board.proofs.Standing.{stand_as_all}
use Rattle.shim_workers.proofs.over_lanes.run_over_lanes.Lts as lts
use Rattle.shim_workers.proofs.over_lanes.run_over_lanes.Goals as goal

pub close-requires-clause-chairs : goal.close-requires-clause-chairs
close-requires-clause-chairs g c = λ k d inside. let long = ap length c.from.ensures in let len = c.in_ok-chairs.ensures.len in let before = c.in_ok-starts.starts.ok.0 in let after = c.in_ok-chairs.chairs.ok.0 in
    subst (λ l. IsIdleOn c.in_ok-board.board (slice_index_or l k d)) (sym c.from.ensures) (c.in_ok-chairs.ensures.each k d (omega arith)).1.call.met.0

pub close-requires-clause-all : goal.close-requires-clause-all
close-requires-clause-all g c = let len = c.in_ok-chairs.ensures.len in let before = c.in_ok-starts.starts.ok.0 in let after = c.in_ok-chairs.chairs.ok.0 in let many = mapped_length (λ s. s.0) c.in_ok-starts.starts.items in
    subst AreAll (sym c.from.ensures) (stand_as_all (map (λ s. s.0) c.in_ok-starts.starts.items) c.in_ok-chairs.chairs.items (
      omega arith,
      λ i d inside. let here : i < length c.in_ok-starts.starts.items = omega arith in let j = c.in_ok-chairs.ensures.each i d here in
          subst (λ x. StandsAs x (slice_index_or c.in_ok-chairs.chairs.items i d)) (sym (mapped_at (λ s. s.0) c.in_ok-starts.starts.items i j.1.job d here ∙ ap (λ s. s.0) (j.1.job_is j.1.job))) j.1.call.met.1,
    )
    (subst AreAll (sym (c.in_ok-starts.ensures.chairs ∙ c.into_vec.ensures)) c.in_ok-board.ensures.chairs.1))

pub returns : goal.returns
returns g c = record { name = c.in-Ok.ensures.net ∙ c.in_ok-board.ensures.board.1 }

-- each chair of a new board has neither the turn nor a slot
pub each_in_a_thread-requires-after_bounds : goal.each_in_a_thread-requires-after_bounds
each_in_a_thread-requires-after_bounds g c κs within i x inside same =
    let s = c.type_bounds.send-L in
    let q = c.type_bounds.sync-G in
    let r = c.type_bounds.sync-R in
    let are = c.in_ok-starts.ensures.chairs ∙ c.into_vec.ensures in
    let new = c.in_ok-board.ensures.chairs.0 i x.0 (subst (λ n. i < n) (sym (mapped_length (λ s. s.0) c.in_ok-starts.starts.items) ∙ ap length are) inside) in
    (subst (λ z. IsIdleOn c.in_ok-board.board z) (sym (ap (λ s. s.0) same ∙ sym (mapped_at (λ s. s.0) c.in_ok-starts.starts.items i x x.0 inside) ∙ ap (λ l. slice_index_or l i x.0) are)) new.0, search sendable depth 20)

pub each_in_a_thread-requires-send-J : goal.each_in_a_thread-requires-send-J
each_in_a_thread-requires-send-J g c κs within = search (net_send, chairs.the_send, loads.the_send, pieces.the_send, sendable) depth 30

pub each_in_a_thread-requires-send-X : goal.each_in_a_thread-requires-send-X
each_in_a_thread-requires-send-X g c κs within = search (net_send, chairs.the_send, loads.the_send, sendable) depth 20

-- the type of the closure is named, since no `search` finds it
pub each_in_a_thread-requires-sync-F : goal.each_in_a_thread-requires-sync-F
each_in_a_thread-requires-sync-F g c κs within =
    let r = c.type_bounds.sync-R in
    let q = c.type_bounds.sync-G in
    let s = c.type_bounds.send-L in
    let p = pools.the_sync in
    param_sync 3 (lts.arg-27-3 g.row.L g.row.G g.row.R g.L.laws g.G.laws g.R.laws g.L.Local g.L.Local-dict g.G.Gate g.G.Gate-dict g.R.Threads g.R.Threads-dict g.R.Wait g.R.Wait-dict g.L.Destruct-dict κs) (search (net_send, boards.the_sync, loads.the_send, struct_sync, shr_sync, sendable) depth 60)
