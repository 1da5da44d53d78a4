use Rattle.std.proofs.Common.{arith, sym, subst, ◌<◌}
use Rattle.shim_board.specs.Counting.{occurs}
use Rattle.shim_base.specs.Lists.{total}
use Rattle.shim_board.proofs.Seats.{first_taken, has_all_counts}
use Rattle.shim_board.proofs.board.Board.close.Goals as goal

pub place_of_first-at-requires : goal.place_of_first-at-requires
place_of_first-at-requires g c = subst (λ l. 0 < total (λ d. occurs 0 d.seat.me.0.numbers) l) (sym c.into_vec-others.ensures) (let e = c.requires.all.1 0 in let p = c.requires.all.0 in omega arith)

pub join_all-seat-requires-clause-others : goal.join_all-seat-requires-clause-others
join_all-seat-requires-clause-others g c = let low = c.place_of_first-at.ensures.inside in let ok = c.into_vec-others.result.ok.0 in
    (first_taken c.args.self c.args.chairs c.into_vec-others.result.items c.remove-seat.new.self.items c.place_of_first-at.result c.remove-seat.result c.into_vec-others.ensures (omega arith)
    c.place_of_first-at.ensures.first c.remove-seat.ensures.value c.remove-seat.ensures.by_index.2 c.requires.chairs c.requires.all).0

pub join_all-seat-requires-clause-numbers : goal.join_all-seat-requires-clause-numbers
join_all-seat-requires-clause-numbers g c = let low = c.place_of_first-at.ensures.inside in let ok = c.into_vec-others.result.ok.0 in
    (first_taken c.args.self c.args.chairs c.into_vec-others.result.items c.remove-seat.new.self.items c.place_of_first-at.result c.remove-seat.result c.into_vec-others.ensures (omega arith)
    c.place_of_first-at.ensures.first c.remove-seat.ensures.value c.remove-seat.ensures.by_index.2 c.requires.chairs c.requires.all).2

pub returns-clause-left : goal.returns-clause-left
returns-clause-left g c = let low = c.place_of_first-at.ensures.inside in let ok = c.into_vec-others.result.ok.0 in let joined = c.join_all-seat.ensures in
    let out = first_taken c.args.self c.args.chairs c.into_vec-others.result.items c.remove-seat.new.self.items c.place_of_first-at.result c.remove-seat.result c.into_vec-others.ensures (omega arith)
    c.place_of_first-at.ensures.first c.remove-seat.ensures.value c.remove-seat.ensures.by_index.2 c.requires.chairs c.requires.all in
    (c.join_all-seat.result.me.0, has_all_counts c.join_all-seat.result.me.0 c.remove-seat.result c.remove-seat.new.self.items c.args.chairs joined.lists out.3 joined.first.3, c.empty.ensures.left)
