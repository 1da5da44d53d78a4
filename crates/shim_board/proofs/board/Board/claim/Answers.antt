use Rattle.atomic_table.specs.Table.{rest}
use Rattle.std.proofs.Common.{rules, ◌∷◌, arith, ◌≡◌, ◌+◌, ◌/◌, ◌%◌, refl, ap, ◌∙◌}
use Rattle.shim_board.specs.declared.content.Content.TheVariants.{Nothing}
use Rattle.shim_board.proofs.Allowed.{one_front, in_front, carries_claim, looks_at, claims_at, looked_first, looked_more, looked_claimed, looked_in, looked_numbers, looked_count, looked_name, looked_claim, looked_turn, looked_hand, sits}
use Rattle.shim_board.proofs.board.Board.claim.Goals as goal

pub load-seen-requires : goal.load-seen-requires
load-seen-requires g c = let sized = c.args.self.now.sized in let slot = c.requires.slot in (c.requires.chair.0, omega arith, looks_at g.N.Named.name _ _ _ _ (sits c.args.chair.now.numbered) _ (omega arith))

pub loop-seen-init : goal.loop-seen-init
loop-seen-init g c = let e = c.load-seen.ensures in let m = e.2 c.args.slot refl in (e.0, e.1, ap (λ s. s.1) m, looked_first _ _ _ _ (ap (λ s. s.0) m))

pub compare_exchange-found-requires : goal.compare_exchange-found-requires
compare_exchange-found-requires g c = let i = c.loop-seen.invariant in let odd = c.loop-seen-test.true in let sized = c.args.self.now.sized in let slot = c.requires.slot in
    (i.0 ∙ c.requires.chair.0, omega arith, claims_at g.N.Named.name _ _ _ _ (sits (looked_numbers _ _ _ _ i.3 ∙ c.args.chair.now.numbered)) _ _ (c.loop-seen.seen / 4) (omega arith) (looked_claim _ _ _ _ i.3 ∙ c.requires.free) (omega arith))

pub loop-seen-preserved : goal.loop-seen-preserved
loop-seen-preserved g c = let i = c.loop-seen.invariant in let e = c.compare_exchange-found.ensures in let m = (e.2 c.args.slot (refl {a = c.args.slot + 1})).1 (search rules) in
    (e.0 ∙ i.0, e.1 ∙ i.1, ap (λ s. s.1) m.0 ∙ i.2, looked_more _ _ _ _ c.loop-seen.seen c.compare_exchange-found.result i.3 (search rules) (m.1 (looked_in _ _ _ c.loop-seen.seen i.3)) (ap (λ s. s.0) m.0))

pub loop-seen-smaller : goal.loop-seen-smaller
loop-seen-smaller g c = let i = c.loop-seen.invariant in let e = c.compare_exchange-found.ensures in let m = ((e.2 c.args.slot (refl {a = c.args.slot + 1})).1 (search rules)).1 (looked_in _ _ _ _ i.3) in omega arith

pub exchange-content-requires : goal.exchange-content-requires
exchange-content-requires g c = let i = c.loop-seen.invariant in let e = c.compare_exchange-found.ensures in let m = (e.2 c.args.slot (refl {a = c.args.slot + 1})).0 (search rules) in (e.0 ∙ i.0 ∙ c.requires.chair.0, in_front _ _ _ _ (ap (λ z. z.1) m.1))

pub unreachable-requires : goal.unreachable-requires
unreachable-requires g c = let m = (c.compare_exchange-found.ensures.2 c.args.slot (refl {a = c.args.slot + 1})).0 (search rules) in
    let same = one_front _ _ _ _ _ _ _ (ap (λ z. z.1) m.1) c.exchange-content.ensures.2 in search rules

pub invariant_of-chair : goal.invariant_of-chair
invariant_of-chair g c = let i = c.loop-seen.invariant in let e = c.compare_exchange-found.ensures in let m = (e.2 c.args.slot (refl {a = c.args.slot + 1})).0 (search rules) in let now = c.exchange-content.ensures.3 in let is = ap (λ z. z.0) m.1 in
    let out = ap (λ z. z.1) m.1 in record {
      numbered = ap (λ z. z.0.numbers) now ∙ ap (λ z. z.numbers) is ∙ looked_numbers _ _ _ _ i.3 ∙ c.args.chair.now.numbered;
      first = λ z. c.exchange-content.ensures.1 ∙ e.1 ∙ i.1 ∙ c.args.chair.now.first z;
      counts = λ z. ap (λ z. z.0.count) now ∙ ap (λ z. z.count) is ∙ looked_count _ _ _ _ i.3 ∙ c.args.chair.now.counts z;
      idle = ap (λ z. z.0.hand) now ∙ ap (λ z. z.hand) is ∙ looked_hand _ _ _ _ i.3 ∙ c.args.chair.now.idle;
      carries = ap (λ z. z.1) now ∙ ap (λ cs. (c.args.slot + 1, Nothing) ∷ rest cs) out ∙ carries_claim c.args.chair.now.seat.me.0 c.loop-seen.seat.me.0 _ _ _ _ c.requires.free (ap (λ z. z.0) now ∙ is) (looked_turn _ _ _ _ i.3) (i.2 ∙ c.args.chair.now.carries);
    }

pub returns-then-found-seen-clause-same : goal.returns-then-found-seen-clause-same
returns-then-found-seen-clause-same g c = let i = c.loop-seen.invariant in let e = c.compare_exchange-found.ensures in let m = (e.2 c.args.slot (refl {a = c.args.slot + 1})).0 (search rules) in let x = c.exchange-content.ensures in
    (x.0 ∙ e.0 ∙ i.0 ∙ c.requires.chair.0, ap (λ z. z.0.name) x.3 ∙ ap (λ z. z.0.name) m.1 ∙ looked_name _ _ _ _ i.3 ∙ c.requires.chair.1)

pub returns-then-found-seen-clause-got : goal.returns-then-found-seen-clause-got
returns-then-found-seen-clause-got g c = let i = c.loop-seen.invariant in let m = (c.compare_exchange-found.ensures.2 c.args.slot (refl {a = c.args.slot + 1})).0 (search rules) in
    let full : c.loop-seen.seen % 4 ≡ 1 = search rules in let hit : c.compare_exchange-found.result ≡ c.loop-seen.seen = search rules in
    (refl, (c.compare_exchange-found.result / 4, looked_claimed _ _ _ _ c.loop-seen.seen (c.compare_exchange-found.result / 4) i.3 (omega arith) (ap (λ z. z.0) c.exchange-content.ensures.3 ∙ ap (λ z. z.0) m.1)))
