use Rattle.std.proofs.Common.{rules, ap, ◌∙◌, subst}
use Rattle.shim_board.specs.Counting.{Each}
use Rattle.shim_board.specs.Kept.{HoldsNothing}
use Rattle.shim_board.proofs.Totals.{each-snoc}
use Rattle.shim_board.proofs.Seats.{joins_first, nothing_out, joined_sits, joined_rests, joined_numbers, joined_lists}
use Rattle.shim_board.proofs.board.Board.join_all.Goals as goal

pub join_seat-requires : goal.join_seat-requires
join_seat-requires g c = let i = c.loop-chair.invariant in let items = c.in-Some.ensures.items in
    let split = each-snoc _ c.pop.new.self.items c.in-Some.chair (subst (Each _) items i.5) in let rests : HoldsNothing c.in-Some.chair.seat.me.0 = (split.1.1, split.1.2, c.in-Some.chair.idle) in
    (i.0, split.1.0.0, c.in-Some.chair.carries ∙ nothing_out c.in-Some.chair.seat.me.0 rests, search rules, joins_first g.N.Named.name _ _ _ _ _ i.1 i.4 rests)

pub loop-chair-preserved : goal.loop-chair-preserved
loop-chair-preserved g c = let i = c.loop-chair.invariant in let items = c.in-Some.ensures.items in let j = c.join_seat.ensures in let m = ap (λ z. z.0) j.2 in
    let split = each-snoc _ c.pop.new.self.items c.in-Some.chair (subst (Each _) items i.5) in
    (j.0 ∙ i.0, j.1 ∙ i.1, ap (λ z. z.1) j.2 ∙ i.2, joined_rests c.loop-chair.seat.me.0 c.in-Some.chair.seat.me.0 _ m i.3, joined_sits c.loop-chair.seat.me.0 c.in-Some.chair.seat.me.0 _ m i.4, split.0, joined_numbers (λ d. d.seat.me.0) c.loop-chair.seat.me.0 _ c.in-Some.chair _ _ m items i.6, joined_lists c.loop-chair.seat.me.0 _ c.args.seat.me.0 c.in-Some.chair c.pop.new.self.items _ c.args.others.items m items i.7)
