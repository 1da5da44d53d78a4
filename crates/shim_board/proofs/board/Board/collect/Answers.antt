use Rattle.std.proofs.Common.{rules, arith, ◌≡◌, ◌∷◌, ◌+◌, ◌*◌, ◌/◌, ◌%◌, Some, ap, sym, ◌∙◌, refl}
use Rattle.atomic_table.specs.Table.{rest}
use Rattle.shim_board.specs.declared.content.Content.TheVariants.{Nothing}
use Rattle.shim_board.specs.Views.{after_collect, carried}
use Rattle.shim_board.proofs.Allowed.{holds_back_at, collects_at, in_front, one_front, sits}
use Rattle.shim_board.proofs.board.Board.collect.Goals as goal

pub load-found-requires : goal.load-found-requires
load-found-requires g c = let sized = c.args.self.now.sized in let slot = c.requires.slot in
    (c.requires.chair.0, omega arith, holds_back_at g.N.Named.name _ _ _ _ (sits c.args.chair.now.numbered) _ (omega arith) c.requires.turn c.args.chair.now.idle)

pub exchange-content-requires : goal.exchange-content-requires
exchange-content-requires g c = let e = c.load-found.ensures in let m = (e.2 c.args.slot (refl {a = c.args.slot + 1})).0 (search rules) in (e.0 ∙ c.requires.chair.0, in_front _ _ _ _ (ap (λ z. z.1) m.1))

pub unreachable-requires : goal.unreachable-requires
unreachable-requires g c = let m = (c.load-found.ensures.2 c.args.slot (refl {a = c.args.slot + 1})).0 (search rules) in
    let same = one_front _ _ _ _ _ _ _ (ap (λ z. z.1) m.1) c.exchange-content.ensures.2 in search rules

pub invariant_of-chair : goal.invariant_of-chair
invariant_of-chair g c = let e = c.load-found.ensures in let m = (e.2 c.args.slot (refl {a = c.args.slot + 1})).1 (search rules) in record {
  numbered = ap (λ z. z.0.numbers) m ∙ c.args.chair.now.numbered;
  first = λ z. e.1 ∙ c.args.chair.now.first z;
  counts = λ z. ap (λ z. z.0.count) m ∙ c.args.chair.now.counts z;
  idle = ap (λ z. z.0.hand) m ∙ c.args.chair.now.idle;
  carries = ap (λ z. z.1) m ∙ c.args.chair.now.carries ∙ ap (λ z. carried z.0) (sym m);
}

pub returns-then-found-ne3-clause-same : goal.returns-then-found-ne3-clause-same
returns-then-found-ne3-clause-same g c = let e = c.load-found.ensures in let m = (e.2 c.args.slot (refl {a = c.args.slot + 1})).1 (search rules) in (e.0 ∙ c.requires.chair.0, ap (λ z. z.0.name) m ∙ c.requires.chair.1)

pub fetch_add-requires : goal.fetch_add-requires
fetch_add-requires g c = let e = c.load-found.ensures in let x = c.load-found.result in let back : x % 4 ≡ 3 = search rules in let m = (e.2 c.args.slot (refl {a = c.args.slot + 1})).0 back in let is : x ≡ 4 * (x / 4) + 3 = omega arith in
    let t = c.exchange-content.ensures in let now = t.3 in let view = ap (λ z. z.0) now ∙ ap (λ z. z.0) m.1 in let out = ap (λ z. z.1) now in let sized = c.args.self.now.sized in let slot = c.requires.slot in (
      t.0 ∙ e.0 ∙ c.requires.chair.0,
      omega arith,
      collects_at g.N.Named.name _ _ _ _ (sits (ap (λ u. u.numbers) view ∙ c.args.chair.now.numbered)) _ (x / 4) (omega arith) (ap (λ u. u.turn) view ∙ c.requires.turn)
          (ap (λ u. u.hand) view ∙ ap (λ n. Some (c.args.slot, n)) is) (out ∙ ap (λ cs. (c.args.slot + 1, Nothing) ∷ rest cs) (sym out)),
    )

pub invariant_of-chair-2 : goal.invariant_of-chair-2
invariant_of-chair-2 g c = let e = c.load-found.ensures in let x = c.load-found.result in let back : x % 4 ≡ 3 = search rules in let m = (e.2 c.args.slot (refl {a = c.args.slot + 1})).0 back in let is : x ≡ 4 * (x / 4) + 3 = omega arith in
    let t = c.exchange-content.ensures in let now = t.3 in let view = ap (λ z. z.0) now ∙ ap (λ z. z.0) m.1 in let a = c.fetch_add.ensures in
    let p = a.2 c.args.slot (x / 4) (ap (λ u. u.hand) view ∙ ap (λ n. Some (c.args.slot, n)) is) in let v = ap (λ z. z.0) p ∙ ap (λ u. after_collect u c.args.slot (x / 4)) view in record {
      numbered = ap (λ u. u.numbers) v ∙ c.args.chair.now.numbered;
      first = λ z. a.1 ∙ t.1 ∙ e.1 ∙ c.args.chair.now.first z;
      counts = λ z. ap (λ u. u.count) v ∙ c.args.chair.now.counts z;
      idle = ap (λ u. u.hand) v;
      carries = ap (λ z. z.1) p ∙ ap (λ z. rest z.1) now ∙ ap (λ z. rest z.1) m.1 ∙ c.args.chair.now.carries ∙ ap carried (sym v);
    }

pub returns-clause-same : goal.returns-clause-same
returns-clause-same g c = let e = c.load-found.ensures in let x = c.load-found.result in let back : x % 4 ≡ 3 = search rules in let m = (e.2 c.args.slot (refl {a = c.args.slot + 1})).0 back in let is : x ≡ 4 * (x / 4) + 3 = omega arith in
    let t = c.exchange-content.ensures in let view = ap (λ z. z.0) t.3 ∙ ap (λ z. z.0) m.1 in let a = c.fetch_add.ensures in
    let p = a.2 c.args.slot (x / 4) (ap (λ u. u.hand) view ∙ ap (λ n. Some (c.args.slot, n)) is) in let v = ap (λ z. z.0) p ∙ ap (λ u. after_collect u c.args.slot (x / 4)) view in
    (a.0 ∙ t.0 ∙ e.0 ∙ c.requires.chair.0, ap (λ u. u.name) v ∙ c.requires.chair.1)

pub returns-clause-got : goal.returns-clause-got
returns-clause-got g c = let x = c.load-found.result in let back : x % 4 ≡ 3 = search rules in let m = (c.load-found.ensures.2 c.args.slot (refl {a = c.args.slot + 1})).0 back in let is : x ≡ 4 * (x / 4) + 3 = omega arith in
    let now = c.exchange-content.ensures.3 in let view = ap (λ z. z.0) now ∙ ap (λ z. z.0) m.1 in
    let p = c.fetch_add.ensures.2 c.args.slot (x / 4) (ap (λ u. u.hand) view ∙ ap (λ n. Some (c.args.slot, n)) is) in (refl, (x / 4, ap (λ z. z.0) p ∙ ap (λ u. after_collect u c.args.slot (x / 4)) view))
