-- Each event counts one step.
use Rattle.std.proofs.Common.{◌≡◌, ℕ, ℤ, ◌+◌, Bool, true, false, Option, Some, None, List, [], ◌∷◌, map, refl, sym, ap, ◌∙◌, arith, unwrap_or, cond, T}
use Rattle.std.specs.FinMap as finite
use Rattle.std.specs.FinMap.{find, put, is_sorted}
use Rattle.std.specs.FinMap.Entries.{by_order, below_all}
use Rattle.std.specs.Cmp.{IsTotalOrder}
use Rattle.std.specs.Ordering.{is_eq}
use Rattle.std.specs.declared.cmp.Ordering.{Ordering}
use Rattle.std.specs.declared.cmp.Ordering.TheVariants.{Less, Equal, Greater}
use Rattle.std.proofs.lemmas.Option.{same_Some}
use Rattle.shim_base.specs.Paths.{Path, Channel, path_order}
use Rattle.shim_base.specs.PathLaws.{path_order_total}
use Rattle.shim_local.specs.Process.{Ops}
use Rattle.shim_semantics.specs.Acts.{Acted}
use Rattle.shim_semantics.specs.Nodes.{Node, source, value_of}
use Rattle.shim_semantics.specs.Places.{meets}
use Rattle.shim_semantics.specs.Trees.{Tree, Event, Own, Meet, Poison, Close, End, after, start, count_own, count_event, change_nodes, poisons, met, acts, Steps, Ends, Closes, steps, sum, with_step_counted, count_of}
use Rattle.shim_semantics.proofs.InOrder.{first_holds, second_holds, less, no_entries}

-- the sum of the counts
abbrev total : {K : Type 0} → List (K × ℕ) → ℕ
total es = sum (map (λ e. e.1) es)

module _ {K : Type 0} {R : K → K → Ordering} (o : IsTotalOrder R) where
  -- a key that is below the first of entries in order isn't among them
  below_rest : (k x : K) → R k x ≡ Less → (es : List (K × ℕ)) → T (below_all R x es) → find R k es ≡ None
  below_rest k x before [] h = refl
  below_rest k x before (e ∷ es) h =
      let past : R k e.0 ≡ Less = o.trans k x e.0 before (less (R x e.0) (first_holds _ _ h)) in
      ap (λ r. cond (is_eq r) (Some e.1) (find R k es)) past ∙ below_rest k x before es (second_holds _ _ h)

  add_none : (v n S : ℕ) (found : Option ℕ) → found ≡ None → (v + (n + S)) + unwrap_or found 0 ≡ (n + S) + v
  add_none v n S None e = omega arith
  add_none v n S (Some x) e = absurd (cc)

  -- what is put replaces what was found
  total_put : (k : K) (v : ℕ) (es : List (K × ℕ)) → T (is_sorted R es) → total (put R k v es) + unwrap_or (find R k es) 0 ≡ total es + v
  total_put k v [] h = omega arith
  total_put k v (e ∷ es) h =
      elim (R k e.0) as (λ r. R k e.0 ≡ r → total (by_order r ((k, v) ∷ e ∷ es) ((e.0, v) ∷ es) (e ∷ put R k v es)) + unwrap_or (cond (is_eq r) (Some e.1) (find R k es)) 0 ≡ (e.1 + total es) + v) [
        | Less ↦ λ p. add_none v e.1 (total es) (find R k es) (below_rest k e.0 p es (first_holds _ _ h))
        | Equal ↦ λ p. omega arith
        | Greater ↦ λ p.
            let rest : total (put R k v es) + unwrap_or (find R k es) 0 ≡ total es + v = total_put k v es (second_holds (below_all R e.0 es) (is_sorted R es) h) in
            omega (arith, rest)
      ] refl

-- one step more of one process
sum_one_more : (m : finite.FinMap path_order ℕ) (p : Path) → sum (finite.values (with_step_counted m p)) ≡ sum (finite.values m) + 1
sum_one_more m p =
    let entries = finite.entries-insert path_order_total m p (count_of m p + 1) in
    let put_total = total_put path_order_total p (count_of m p + 1) (finite.entries m) (finite.entries_sorted m) in
    let found : unwrap_or (find path_order p (finite.entries m)) 0 ≡ count_of m p = ap (λ z. unwrap_or z 0) (sym (finite.get-entries m p)) in
    let moved : sum (finite.values (with_step_counted m p)) ≡ total (put path_order p (count_of m p + 1) (finite.entries m)) = ap total entries in
    omega (arith, put_total, found, moved)

own_counts : {S : Type 0} (p : Path) (t u : Tree S) (a : Option (Acted S)) → count_own p t a ≡ Some u → steps u ≡ steps t + 1
own_counts p t u None e = absurd (cc)
own_counts p t u (Some a) e =
    let more : sum (finite.values (with_step_counted t.counts p)) + t.events ≡ steps t + 1 = omega (arith, sum_one_more t.counts p) in
    ap steps (sym (same_Some _ u e)) ∙ more

other_counts : {S : Type 0} (p : Path) (t u : Tree S) (a : Option (Acted S)) → count_event p t a ≡ Some u → steps u ≡ steps t + 1
other_counts p t u None e = absurd (cc)
other_counts p t u (Some a) e =
    let more : sum (finite.values t.counts) + (t.events + 1) ≡ steps t + 1 = omega arith in
    ap steps (sym (same_Some _ u e)) ∙ more

nodes_changed_counts : {S : Type 0} (t u : Tree S) (n : Option (Node S)) → change_nodes t n ≡ Some u → steps u ≡ steps t + 1
nodes_changed_counts t u None e = absurd (cc)
nodes_changed_counts t u (Some n) e =
    let more : sum (finite.values t.counts) + (t.events + 1) ≡ steps t + 1 = omega arith in
    ap steps (sym (same_Some _ u e)) ∙ more

-- an event that happens where a test holds
tested : {S : Type 0} (b : Bool) (t x u : Tree S) → steps x ≡ steps t + 1 → cond b (Some x) None ≡ Some u → steps u ≡ steps t + 1
tested true t x u more e = ap steps (sym (same_Some x u e)) ∙ more
tested false t x u more e = absurd (cc)

met_counts : {S : Type 0} (o : Ops S) (c : Channel) (v : ℤ) (t : Tree S) → steps (met o c v t) ≡ steps t + 1
met_counts o c v t =
    let more : sum (finite.values t.counts) + (t.events + 1) ≡ steps t + 1 = omega arith in
    more

pub event_counts : {S : Type 0} (o : Ops S) (e : Event) (t u : Tree S) → after o e t ≡ Some u → steps u ≡ steps t + 1
event_counts o (Own p) t u h = own_counts p t u (acts o Steps p t.root) h
event_counts o (Meet c) t u h = tested (meets o c t.root) t _ u (met_counts o c (value_of o c (source o c t.root)) t) h
event_counts o (Poison p c) t u h = nodes_changed_counts t u (poisons o p c t.root) h
event_counts o (Close p) t u h = other_counts p t u (acts o Closes p t.root) h
event_counts o (End p) t u h = other_counts p t u (acts o Ends p t.root) h

-- no event led to a tree in which nothing has happened
pub none_counted : {S : Type 0} (l : S) (t : Tree S) → t ≡ start l → steps t ≡ 0
none_counted l t is =
    let none : sum (map (λ (e : Path × ℕ). e.1) (finite.entries (finite.empty {X = ℕ} {R = path_order}))) ≡ 0 = ap (λ (es : List (Path × ℕ)). sum (map (λ e. e.1) es)) (no_entries path_order) in
    let started : steps (start l) ≡ 0 = omega (arith, none) in
    ap steps is ∙ started
