use Rattle.std.proofs.Common.{arith, ◌∷◌, ◌+◌, ap, sym, ◌∙◌, refl}
use Rattle.atomic_table.specs.Table.{rest}
use Rattle.shim_board.specs.declared.content.Content.TheVariants.{Piece}
use Rattle.shim_board.specs.Views.{after_put, carried}
use Rattle.shim_board.proofs.Allowed.{holds_empty_at, puts_at, in_front, sits}
use Rattle.shim_board.proofs.board.Board.put.Goals as goal

pub load-requires : goal.load-requires
load-requires g c = let sized = c.args.self.now.sized in let slot = c.requires.slot in let n = c.requires.noted in
    (c.requires.chair.0, omega arith, holds_empty_at g.N.Named.name _ _ _ _ (sits c.args.chair.now.numbered) _ n.0 (omega arith) c.requires.turn c.args.chair.now.idle n.1)

pub exchange-requires : goal.exchange-requires
exchange-requires g c = let e = c.load.ensures in let n = c.requires.noted in let m = e.2 c.args.slot n.0 refl n.1 in (e.0 ∙ c.requires.chair.0, in_front _ _ _ _ (ap (λ z. z.1) m))

pub fetch_add-requires : goal.fetch_add-requires
fetch_add-requires g c = let e = c.load.ensures in let n = c.requires.noted in let m = e.2 c.args.slot n.0 refl n.1 in let x = c.exchange.ensures in
    let now = x.3 in let view = ap (λ z. z.0) now ∙ ap (λ z. z.0) m in let out = ap (λ z. z.1) now in let sized = c.args.self.now.sized in let slot = c.requires.slot in (
      x.0 ∙ e.0 ∙ c.requires.chair.0,
      omega arith,
      puts_at g.N.Named.name _ _ _ _ (sits (ap (λ u. u.numbers) view ∙ c.args.chair.now.numbered)) _ n.0 c.args.value (omega arith) (ap (λ u. u.turn) view ∙ c.requires.turn) n.2
          (ap (λ u. u.hand) view) (out ∙ ap (λ cs. (c.args.slot + 1, Piece c.args.value) ∷ rest cs) (sym out)),
    )

pub invariant_of-chair : goal.invariant_of-chair
invariant_of-chair g c = let e = c.load.ensures in let n = c.requires.noted in let m = e.2 c.args.slot n.0 refl n.1 in let x = c.exchange.ensures in let a = c.fetch_add.ensures in
    let view = ap (λ z. z.0) x.3 ∙ ap (λ z. z.0) m in let p = a.2 c.args.slot n.0 (ap (λ u. u.hand) view) in let v = ap (λ z. z.0) p ∙ ap (λ u. after_put u c.args.slot n.0) view in record {
      numbered = ap (λ u. u.numbers) v ∙ c.args.chair.now.numbered;
      first = λ z. a.1 ∙ x.1 ∙ e.1 ∙ c.args.chair.now.first z;
      counts = λ z. ap (λ u. u.count) v ∙ c.args.chair.now.counts z;
      idle = ap (λ u. u.hand) v;
      carries = ap (λ z. z.1) p ∙ ap (λ z. rest z.1) x.3 ∙ ap (λ z. rest z.1) m ∙ c.args.chair.now.carries ∙ ap carried (sym v);
    }

pub returns-clause-same : goal.returns-clause-same
returns-clause-same g c = let e = c.load.ensures in let n = c.requires.noted in let m = e.2 c.args.slot n.0 refl n.1 in let x = c.exchange.ensures in let a = c.fetch_add.ensures in
    let view = ap (λ z. z.0) x.3 ∙ ap (λ z. z.0) m in let p = a.2 c.args.slot n.0 (ap (λ u. u.hand) view) in let v = ap (λ z. z.0) p ∙ ap (λ u. after_put u c.args.slot n.0) view in
    ((a.0 ∙ x.0 ∙ e.0 ∙ c.requires.chair.0, ap (λ u. u.name) v ∙ c.requires.chair.1), refl)

pub returns-clause-put : goal.returns-clause-put
returns-clause-put g c = λ round some_note. let e = c.load.ensures in let m = e.2 c.args.slot round refl some_note in let x = c.exchange.ensures in let a = c.fetch_add.ensures in
    let view = ap (λ z. z.0) x.3 ∙ ap (λ z. z.0) m in let p = a.2 c.args.slot round (ap (λ u. u.hand) view) in ap (λ z. z.0) p ∙ ap (λ u. after_put u c.args.slot round) view
