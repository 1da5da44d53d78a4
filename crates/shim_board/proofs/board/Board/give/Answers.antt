use Rattle.std.proofs.Common.{arith, ◌∷◌, ◌+◌, ap, sym, ◌∙◌, refl}
use Rattle.atomic_table.specs.Table.{rest}
use Rattle.shim_board.specs.Views.{after_give, carried, out_claimed, out_turn}
use Rattle.shim_board.specs.declared.content.Content.TheVariants.{Piece}
use Rattle.shim_board.proofs.Allowed.{gives_at, in_front, gives_carried, sits}
use Rattle.shim_board.proofs.board.Board.give.Goals as goal

pub exchange-requires : goal.exchange-requires
exchange-requires g c = (c.requires.chair.0, in_front _ _ _ _ (c.args.chair.now.carries ∙ ap (λ o. out_claimed o (out_turn c.args.chair.now.seat.me.0.turn)) c.requires.claimed.1))

pub fetch_add-requires : goal.fetch_add-requires
fetch_add-requires g c = let x = c.exchange.ensures in let now = x.3 in let same = ap (λ z. z.0) now in let out = ap (λ z. z.1) now in let sized = c.args.self.now.sized in let slot = c.requires.slot in (
  x.0 ∙ c.requires.chair.0,
  omega arith,
  gives_at g.N.Named.name _ _ _ _ (sits (ap (λ z. z.numbers) same ∙ c.args.chair.now.numbered)) _ c.requires.claimed.0 c.args.value (omega arith) (ap (λ z. z.claimed) same ∙ c.requires.claimed.1)
      (out ∙ ap (λ cs. (c.args.slot + 1, Piece c.args.value) ∷ rest cs) (sym out)),
)

pub invariant_of-chair : goal.invariant_of-chair
invariant_of-chair g c = let x = c.exchange.ensures in let a = c.fetch_add.ensures in let v = ap (λ z. z.0) a.2 ∙ ap (λ z. after_give z.0) x.3 in record {
  numbered = ap (λ u. u.numbers) v ∙ c.args.chair.now.numbered;
  first = λ z. a.1 ∙ x.1 ∙ c.args.chair.now.first z;
  counts = λ z. ap (λ u. u.count) v ∙ c.args.chair.now.counts z;
  idle = ap (λ u. u.hand) v ∙ c.args.chair.now.idle;
  carries = ap (λ z. z.1) a.2 ∙ ap (λ z. rest z.1) x.3 ∙ gives_carried c.args.chair.now.seat.me.0 _ _ _ c.args.chair.now.carries c.requires.claimed.1 ∙ ap carried (sym v);
}

pub returns-clause-same : goal.returns-clause-same
returns-clause-same g c = let x = c.exchange.ensures in let a = c.fetch_add.ensures in let v = ap (λ z. z.0) a.2 ∙ ap (λ z. after_give z.0) x.3 in ((a.0 ∙ x.0 ∙ c.requires.chair.0, ap (λ u. u.name) v ∙ c.requires.chair.1), refl)

pub returns-clause-given : goal.returns-clause-given
returns-clause-given g c = ap (λ z. z.0) c.fetch_add.ensures.2 ∙ ap (λ z. after_give z.0) c.exchange.ensures.3
