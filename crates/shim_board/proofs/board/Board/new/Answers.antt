use Rattle.std.proofs.Common.{rules, arith, refl, sym, ap, ◌∙◌, ◌<◌, ◌≡◌}
use Rattle.shim_board.specs.Views.{fresh, after_split, split_off}
use Rattle.shim_board.proofs.Totals.{each-all}
use Rattle.shim_board.proofs.Opening.{opens_as}
use Rattle.shim_board.proofs.Seats.{splits_first, counts_no_more, dealt_more, dealt_all}
use Rattle.shim_board.proofs.board.Board.new.Goals as goal

pub new-requires : goal.new-requires
new-requires g c = opens_as g.N.Named.name c.args.slots c.args.net _ _ _ (search rules) (search rules) (search rules)

pub split_seat-other-requires : goal.split_seat-other-requires
split_seat-other-requires g c = let i = c.loop-number.invariant in (search rules, search rules, splits_first g.N.Named.name _ _ _ _ i.1 i.3)

pub loop-number-preserved : goal.loop-number-preserved
loop-number-preserved g c = let i = c.loop-number.invariant in let s = c.split_seat-other.ensures in let v = ap (λ z. z.0) s.4 ∙ ap split_off i.3 in
    let inside : c.loop-number.number < c.args.chairs = search rules in let above : 0 < c.loop-number.number = omega arith in
    let d = dealt_more (λ d. d.seat.me.0) _ _ _ _ _ c.in_ok-push.ensures.items (((s.3 ∙ i.0, ap (λ u. u.name) v), ap (λ u. u.turn) v, ap (λ u. u.claimed) v), refl, (c.loop-number.number, inside, v ∙ ap (fresh _ _) (sym (counts_no_more c.args.chairs c.loop-number.number above)))) i.5 i.6 i.7 (ap (λ u. u.numbers) v) (ap (λ u. u.count) v) in
    (s.0 ∙ i.0, s.1 ∙ i.1, ap (λ z. z.1) s.2 ∙ i.2, ap (λ z. z.0) s.2 ∙ ap after_split i.3, search rules, d.0, d.1, d.2)

pub returns-clause-chairs : goal.returns-clause-chairs
returns-clause-chairs g c = let i = c.loop-number.invariant in let some_chairs : 0 < c.loop-number.number = omega arith in let low = c.loop-number.auto.number in let high = c.loop-number.auto.number-end in let stop = c.loop-number-test.false in let all_dealt : c.loop-number.number ≡ c.args.chairs = omega arith in
    let d = dealt_all (λ d. d.seat.me.0) _ _ _ _ _ (c.from.ensures ∙ c.in_ok-push-2.ensures.items) (((i.0, ap (λ u. u.name) i.3), ap (λ u. u.turn) i.3, ap (λ u. u.claimed) i.3), refl, (0, omega arith, i.3 ∙ ap (fresh _ 0) all_dealt)) i.5 i.6 i.7 some_chairs (ap (λ u. u.numbers) i.3) (ap (λ u. u.count) i.3) in (each-all _ _ d.0, (d.1, d.2))
