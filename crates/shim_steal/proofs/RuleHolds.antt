-- What each step keeps implies the rule of a deque.
use Rattle.std.proofs.Common.{◌≡◌, inl, inr, ⊎_elim, ℕ, ◌+◌, ◌<◌, List, [], ◌∷◌, ◌++◌, length, refl, sym, ap, ◌∙◌, subst, arith}
use mathlib.Core.Option.{some, some-injective}
use lib.ListN.{get_elem?}
use Rattle.shim_steal.specs.declared.view.View.{View}
use Rattle.shim_steal.specs.Counting.{times}
use Rattle.shim_base.specs.Lists.{IsAmong}
use Rattle.shim_steal.specs.Kept.{Kept}
use Rattle.shim_steal.specs.Rule.{Rule, WasPushed, WasTaken}
use Rattle.shim_steal.proofs.Totals.{times-append}
use Rattle.shim_steal.proofs.Lists.{among-left, among-right, among-either, at-behind}
use Rattle.shim_steal.proofs.Numbers.{numbered-at, among-at, at-numbered, numbered-once, numbered-split, part-among, part-order, times-among, among-times, total-some}

module _ {T : Type 0} (items : List (ℕ × T)) (views : List (View T)) (k : Kept items views) where
  first-view : (v : View T) × (get_elem? views 0 ≡ some v)
  first-view = by views (let p = k.passes in let z : 0 < length views = omega arith in z)
    where
      by : (vs : List (View T)) → 0 < length vs → (v : View T) × (get_elem? vs 0 ≡ some v)
      by [] h = absurd (omega arith)
      by (v ∷ vs) h = (v, refl)

  in-line : (p : ℕ × T) → IsAmong p (k.gone ++ items) → WasPushed items views p
  in-line p h = let r = among-at 0 k.pushed p (subst (IsAmong p) (sym k.line) h) in let v = first-view in (v.0, v.1, ap (λ l. get_elem? l p.0) (k.own v.0 v.1).pushes ∙ ap (get_elem? k.pushed) (let z = r.1 in let is : p.0 ≡ r.0 = omega arith in is) ∙ r.2)

  is-gone : (p : ℕ × T) → WasTaken items views p → IsAmong p k.gone
  is-gone p t = part-among t.1.taken k.gone (k.order t.0 t.1 t.2) p t.3

  taken-by : (p : ℕ × T) → IsAmong p k.gone → WasTaken items views p
  taken-by p h = let some-view = total-some (λ (v : View T). times p.0 v.taken) views (let l = k.lists p.0 in let n = among-times k.gone p h in omega arith) in let q = times-among p.0 some-view.1.taken some-view.3 in
      let theirs = in-line q.0 (among-left q.0 k.gone items (part-among some-view.1.taken k.gone (k.order some-view.0 some-view.1 some-view.2) q.0 q.1)) in let mine = in-line p (among-left p k.gone items h) in
      let one-view = some-injective mine.0 theirs.0 (sym mine.1 ∙ theirs.1) in
      let value = some-injective p.1 q.0.1 (sym mine.2 ∙ ap (λ (v : View T). get_elem? v.pushed p.0) one-view ∙ ap (get_elem? theirs.0.pushed) (sym q.2) ∙ theirs.2) in
      let number = sym q.2 in (some-view.0, some-view.1, some-view.2, subst (λ z. IsAmong z some-view.1.taken) (λ i. (q.2 i, sym value i)) q.1)

  pub holds : Rule items views
  holds = record {
    once = λ n. let l = k.lists n in let o = numbered-once n 0 k.pushed in let a = times-append n k.gone items in let e = ap (times n) k.line in omega arith;
    same = λ p t. in-line p (among-left p k.gone items (is-gone p t));
    queued = λ p h. in-line p (among-right p k.gone items h);
    lost = λ p w. ⊎_elim (λ a. inl (taken-by p a)) (λ b. inr b) (among-either p k.gone items (subst (IsAmong p) k.line (at-numbered 0 k.pushed p.0 p (omega arith) (ap (λ l. get_elem? l p.0) (sym (k.own w.0 w.1).pushes) ∙ w.2))));
    first = λ p q t h. let s = numbered-split 0 k.pushed k.gone items k.line in let a = s.0 p (is-gone p t) in let b = s.1 q h in omega arith;
    lists = λ j v at a b p q less f g. part-order 0 k.pushed v.taken k.gone items k.line (k.order j v at) a b p q less f g;
    queue = λ a b p q f g. let x = (numbered-at 0 k.pushed (length k.gone + a) p (ap (λ l. get_elem? l (length k.gone + a)) k.line ∙ at-behind k.gone items a p f)).0 in let y = (numbered-at 0 k.pushed (length k.gone + b) q (ap (λ l. get_elem? l (length k.gone + b)) k.line ∙ at-behind k.gone items b q g)).0 in omega arith;
    passes = λ v at. k.passes ∙ ap (λ n. n + 1) (sym (k.own v at).passes);
  }
