-- An event takes nothing back that was put or met, and so a run doesn't either.
use Rattle.std.proofs.Common.{◌≡◌, ℕ, ℤ, Option, Some, None, List, [], ◌∷◌, ◌++◌, inl, inr, cond, refl, sym, ap, subst, ◌∙◌}
use Rattle.std.proofs.lemmas.List.{append-nil, append_assoc}
use Rattle.std.specs.Prelude.{unwrap_or}
use Rattle.std.specs.FinMap as map
use Rattle.std.specs.FinMap.{get-insert}
use Rattle.std.specs.Ordering.{eq_by_cmp}
use Rattle.shim_base.specs.Paths.{Path, Channel, channel_order}
use Rattle.shim_base.specs.PathLaws.{channel_order_total, exact_channel}
use Rattle.shim_local.specs.Process.{Ops}
use Rattle.shim_semantics.specs.Nodes.{Node, source, value_of, first_name}
use Rattle.shim_semantics.specs.Acts.{Acted}
use Rattle.shim_semantics.specs.Places.{meets}
use Rattle.shim_semantics.specs.Trees.{Tree, Met, Event, Own, Meet, Poison, Close, End, Steps, Ends, Closes, acts, count_own, count_event, change_nodes, poisons, with_met, recorded, met, after}
use Rattle.shim_semantics.specs.Systems.{run}
use Rattle.shim_laws_schedules.proofs.Entries.{tied_same}
use Rattle.shim_laws_schedules.proofs.PoisonDiamond.{nodes_changed_some}
use Rattle.shim_laws_schedules.specs.Orders.{IsPrefix}
use Rattle.shim_laws_schedules.specs.Laws.{IsPrefixOf}
use Rattle.shim_laws_schedules.proofs.Lengths.{went_on}
use Rattle.shim_base.proofs.Facts.{some_same, none_some, cond_some, true_or_false}

pub prefix_same : {A : Type 0} (xs ys : List A) → xs ≡ ys → IsPrefix xs ys
prefix_same xs ys e = ([], append-nil xs ∙ e)

pub prefix_of : {A : Type 0} (xs more : List A) → IsPrefix xs (xs ++ more)
prefix_of xs more = (more, refl)

pub prefix_further : {A : Type 0} (xs ys zs : List A) → IsPrefix xs ys → IsPrefix ys zs → IsPrefix xs zs
prefix_further xs ys zs f g = (f.0 ++ g.0, sym (append_assoc xs f.0 g.0) ∙ (ap (λ z. z ++ g.0) f.1 ∙ g.1))

-- the entry of a channel with other values
abbrev with_values : Met → List ℤ → Option Met
with_values h vs = Some (record { name = h.name; values = vs })

-- where the first entry is there, the second is that one with more values
abbrev Grows : Option Met → Option Met → Type 0
Grows x y = (h : Met) → x ≡ Some h → (more : List ℤ) × (y ≡ with_values h (h.values ++ more))

grows_same : (x : Option Met) → Grows x x
grows_same x h e = ([], e ∙ ap (with_values h) (sym (append-nil h.values)))

grows_further : (x y z : Option Met) → Grows x y → Grows y z → Grows x z
grows_further x y z f g h e =
    let a = f h e in
    let b = g (record { name = h.name; values = h.values ++ a.0 }) a.1 in
    (a.0 ++ b.0, b.1 ∙ ap (with_values h) (append_assoc h.values a.0 b.0))

value_more : (name : ℕ) (v : ℤ) (x : Option Met) → Grows x (Some (with_met name v x))
value_more name v None h e = none_some h e
value_more name v (Some k) h e = (v ∷ [], ap (λ (m : Met). with_values m (m.values ++ v ∷ [])) (some_same k h e))

recorded_more : (m : map.FinMap channel_order Met) (d : Channel) (name : ℕ) (v : ℤ) (c : Channel) → Grows (map.get m c) (map.get (recorded m d name v) c)
recorded_more m d name v c =
    let read = get-insert channel_order_total m d (with_met name v (map.get m d)) c in
    elim (true_or_false (eq_by_cmp channel_order c d)) [
      | inl y ↦
          let is : c ≡ d = tied_same exact_channel c d y in
          let now : map.get (recorded m d name v) c ≡ Some (with_met name v (map.get m c)) =
          read ∙ (ap (λ b. cond b (Some (with_met name v (map.get m d))) (map.get m c)) y ∙ ap (λ z. Some (with_met name v (map.get m z))) (sym is)) in
          subst (λ z. Grows (map.get m c) z) (sym now) (value_more name v (map.get m c))
      | inr n ↦
          let now : map.get (recorded m d name v) c ≡ map.get m c = read ∙ ap (λ b. cond b (Some (with_met name v (map.get m d))) (map.get m c)) n in
          subst (λ z. Grows (map.get m c) z) (sym now) (grows_same (map.get m c))
    ]

module _ {S : Type 0} where
  pub longer_same : (t : Tree S) → IsPrefixOf t t
  longer_same t = record { output = prefix_same t.output t.output refl; histories = λ c. grows_same (map.get t.histories c) }

  pub longer_further : (t u w : Tree S) → IsPrefixOf t u → IsPrefixOf u w → IsPrefixOf t w
  longer_further t u w f g = record {
    output = prefix_further t.output u.output w.output f.output g.output;
    histories = λ c. grows_further (map.get t.histories c) (map.get u.histories c) (map.get w.histories c) (f.histories c) (g.histories c);
  }

  own_longer : (p : Path) (t u : Tree S) (x : Option (Acted S)) → count_own p t x ≡ Some u → IsPrefixOf t u
  own_longer p t u None e = none_some u e
  own_longer p t u (Some a) e = subst (IsPrefixOf t) (some_same _ u e) (record { output = prefix_of t.output a.effects.bytes; histories = λ c. grows_same (map.get t.histories c) })

  other_longer : (p : Path) (t u : Tree S) (x : Option (Acted S)) → count_event p t x ≡ Some u → IsPrefixOf t u
  other_longer p t u None e = none_some u e
  other_longer p t u (Some a) e = subst (IsPrefixOf t) (some_same _ u e) (record { output = prefix_of t.output a.effects.bytes; histories = λ c. grows_same (map.get t.histories c) })

  nodes_changed_longer : (t u : Tree S) (x : Option (Node S)) → change_nodes t x ≡ Some u → IsPrefixOf t u
  nodes_changed_longer t u x e = subst (IsPrefixOf t) (nodes_changed_some t u x e).2 (record { output = prefix_same t.output t.output refl; histories = λ c. grows_same (map.get t.histories c) })

module _ {S : Type 0} (o : Ops S) where
  met_longer : (d : Channel) (v : ℤ) (t : Tree S) → IsPrefixOf t (met o d v t)
  met_longer d v t = record { output = prefix_same t.output t.output refl; histories = λ c. recorded_more t.histories d (unwrap_or (first_name o d t.root) 0) v c }

  pub event_longer : (e : Event) (t u : Tree S) → after o e t ≡ Some u → IsPrefixOf t u
  event_longer (Own p) t u h = own_longer p t u (acts o Steps p t.root) h
  event_longer (Close p) t u h = other_longer p t u (acts o Closes p t.root) h
  event_longer (End p) t u h = other_longer p t u (acts o Ends p t.root) h
  event_longer (Poison p c) t u h = nodes_changed_longer t u (poisons o p c t.root) h
  event_longer (Meet c) t u h =
      let v = value_of o c (source o c t.root) in
      subst (IsPrefixOf t) (cond_some (meets o c t.root) (met o c v t) u h).1 (met_longer c v t)

  pub run_longer : (es : List Event) (t u : Tree S) → run (after o) es t ≡ Some u → IsPrefixOf t u
  run_longer [] t u h = subst (IsPrefixOf t) (some_same t u h) (longer_same t)
  run_longer (e ∷ es) t u h =
      let x = went_on (run (after o) es) (after o e t) u h in
      longer_further t x.0 u (event_longer e t x.0 x.1) (run_longer es x.0 u x.2)
