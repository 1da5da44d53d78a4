use Rattle.std.proofs.Common.{arith, ◌∷◌, Some, ap, sym, ◌∙◌, refl}
use Rattle.atomic_table.specs.Table.{rest}
use Rattle.shim_board.specs.declared.content.Content.TheVariants.{Net}
use Rattle.shim_board.specs.Views.{carried, after_leave}
use Rattle.shim_board.proofs.Allowed.{leaves_turn_at, in_front, net_front, sits}
use Rattle.shim_board.proofs.board.Board.leave_turn.Goals as goal

pub exchange-requires : goal.exchange-requires
exchange-requires g c = let t = c.turn.ensures in (t.0 ∙ c.requires.chair.0, in_front _ _ _ _ (ap (λ z. z.1) t.2 ∙ net_front c.args.chair.now.seat.me.0 _ c.args.chair.now.carries c.requires.turn))

pub store-requires : goal.store-requires
store-requires g c = let t = c.turn.ensures in let x = c.exchange.ensures in let view = ap (λ z. z.0) x.3 ∙ ap (λ z. z.0) t.2 in let out = ap (λ z. z.1) x.3 in let sized = c.args.self.now.sized in (
  x.0 ∙ t.0 ∙ c.requires.chair.0,
  omega arith,
  leaves_turn_at g.N.Named.name _ _ _ _ (sits (ap (λ u. u.numbers) view ∙ c.args.chair.now.numbered)) c.args.net (omega arith) (ap (λ u. u.turn) view ∙ c.requires.turn)
      (ap (λ u. u.hand) view ∙ c.args.chair.now.idle) (ap (λ u. u.name) view ∙ c.requires.chair.1 ∙ ap Some (sym c.requires.name)) (out ∙ ap (λ cs. (0, Net c.args.net) ∷ rest cs) (sym out)),
)

pub invariant_of-chair : goal.invariant_of-chair
invariant_of-chair g c = let t = c.turn.ensures in let x = c.exchange.ensures in let p = c.store.ensures in let view = ap (λ z. z.0) x.3 ∙ ap (λ z. z.0) t.2 in let v = ap (λ z. z.0) p.2 ∙ ap after_leave view in record {
  numbered = ap (λ u. u.numbers) v ∙ c.args.chair.now.numbered;
  first = λ z. p.1 ∙ x.1 ∙ t.1 ∙ c.args.chair.now.first z;
  counts = λ z. ap (λ u. u.count) v ∙ c.args.chair.now.counts z;
  idle = ap (λ u. u.hand) v ∙ c.args.chair.now.idle;
  carries = ap (λ z. z.1) p.2 ∙ ap (λ z. rest z.1) x.3 ∙ ap (λ z. rest z.1) t.2 ∙ ap rest (net_front c.args.chair.now.seat.me.0 _ c.args.chair.now.carries c.requires.turn) ∙ ap carried (sym v);
}

pub returns-clause-same : goal.returns-clause-same
returns-clause-same g c = let t = c.turn.ensures in let x = c.exchange.ensures in let p = c.store.ensures in let view = ap (λ z. z.0) x.3 ∙ ap (λ z. z.0) t.2 in let v = ap (λ z. z.0) p.2 ∙ ap after_leave view in
    ((p.0 ∙ x.0 ∙ t.0 ∙ c.requires.chair.0, ap (λ u. u.name) v ∙ c.requires.chair.1), refl)

pub returns-clause-left : goal.returns-clause-left
returns-clause-left g c = ap (λ z. z.0) c.store.ensures.2 ∙ ap after_leave (ap (λ z. z.0) c.exchange.ensures.3 ∙ ap (λ z. z.0) c.turn.ensures.2)
