use Rattle.std.proofs.Common.{rules, arith, ◌/◌, ◌%◌, ◌≡◌, ◌<◌, refl, sym, ap, subst, ◌∙◌}
use Rattle.shim_board.specs.Counting.{times}
use Rattle.shim_board.specs.Views.{carried}
use Rattle.shim_board.proofs.Allowed.{looks_at, note_made, sits}
use Rattle.shim_board.proofs.board.Board.vacant.Goals as goal

pub load-found-requires : goal.load-found-requires
load-found-requires g c = let sized = c.args.self.now.sized in let slot = c.requires.slot in
    (c.requires.chair.0, omega arith, looks_at g.N.Named.name _ _ _ _ (sits c.args.chair.now.numbered) _ (omega arith))

pub invariant_of-chair : goal.invariant_of-chair
invariant_of-chair g c = let e = c.load-found.ensures in let m = e.2 c.args.slot refl in record {
  numbered = ap (λ z. z.0.numbers) m ∙ c.args.chair.now.numbered;
  first = λ z. e.1 ∙ c.args.chair.now.first z;
  counts = λ z. ap (λ z. z.0.count) m ∙ c.args.chair.now.counts z;
  idle = ap (λ z. z.0.hand) m ∙ c.args.chair.now.idle;
  carries = ap (λ z. z.1) m ∙ c.args.chair.now.carries ∙ ap (λ z. carried z.0) (sym m);
}

pub invariant_of-chair-2 : goal.invariant_of-chair-2
invariant_of-chair-2 g c = let e = c.load-found.ensures in let m = e.2 c.args.slot refl in record {
  numbered = ap (λ z. z.0.numbers) m ∙ c.args.chair.now.numbered;
  first = λ z. e.1 ∙ c.args.chair.now.first z;
  counts = λ z. ap (λ z. z.0.count) m ∙ c.args.chair.now.counts z;
  idle = ap (λ z. z.0.hand) m ∙ c.args.chair.now.idle;
  carries = ap (λ z. z.1) m ∙ c.args.chair.now.carries ∙ ap (λ z. carried z.0) (sym m);
}

pub returns-then-found-eq0-clause-same : goal.returns-then-found-eq0-clause-same
returns-then-found-eq0-clause-same g c = let e = c.load-found.ensures in (e.0 ∙ c.requires.chair.0, ap (λ z. z.0.name) (e.2 c.args.slot refl) ∙ c.requires.chair.1)

pub returns-clause-same : goal.returns-clause-same
returns-clause-same g c = let e = c.load-found.ensures in (e.0 ∙ c.requires.chair.0, ap (λ z. z.0.name) (e.2 c.args.slot refl) ∙ c.requires.chair.1)

pub returns-then-found-eq0-clause-noted : goal.returns-then-found-eq0-clause-noted
returns-then-found-eq0-clause-noted g c = let m = c.load-found.ensures.2 c.args.slot refl in let x = c.load-found.result in let empty : x % 4 ≡ 0 = search rules in
    subst (λ l. 0 < times c.args.slot (x / 4) l) (sym (ap (λ z. z.0.noted) m)) (note_made c.args.chair.now.seat.me.0.turn c.args.slot x (x / 4) c.args.chair.now.seat.me.0.noted c.requires.turn (omega arith))
