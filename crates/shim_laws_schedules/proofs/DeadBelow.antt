-- Whether here or below a process died of a label below a bound, and where a node is replaced.
use Rattle.std.proofs.Common.{◌≡◌, ℕ, zero, suc, Bool, true, false, Option, Some, None, List, [], ◌∷◌, ◌||◌, ◌⊎◌, inl, inr, min, ltb, refl, sym, ap, ◌∙◌, arith, ltb-true, ltb-false, lt-ltb, le-ltb}
use Rattle.shim_semantics.specs.Nodes.{Node, Nodes, Live, Forked, Ended, Dead, death, Death, no_node, node_and, all_done, prevailing, prevailing_death, all_live}
use Rattle.shim_semantics.specs.Places.{at, child_at}
use Rattle.shim_semantics.proofs.ReplacedNodes.{put, put_child}
use Rattle.shim_base.proofs.Facts.{some_same, none_some, either_holds, true_or_false, or_left, or_right}

abbrev mutual
  -- here or below one died of a label below h
  pub dead_below : {S : Type 0} → ℕ → Node S → Bool
  dead_below h (Live l) = false
  dead_below h (Forked l ks) = any_dead_below h ks
  dead_below h (Ended l) = false
  dead_below h (Dead l x) = ltb x.label h

  pub any_dead_below : {S : Type 0} → ℕ → Nodes S → Bool
  any_dead_below h no_node = false
  any_dead_below h (node_and k ks) = dead_below h k || any_dead_below h ks

-- this is the least label of which one at or below these died
pub record IsLeast {S : Type 0} (x : ℕ) (ks : Nodes S) : Type 0 where
  pub some : any_dead_below (suc x) ks ≡ true
  pub none : any_dead_below x ks ≡ false

-- the label of a death is below a bound or not
under : Option Death → ℕ → Bool
under None h = false
under (Some x) h = ltb x.label h

-- the label of the prevailing of two deaths is below a bound where that of one of them is
prevailing_under : (x : Death) (h : ℕ) (r : Option Death) → (ltb x.label h || under r h) ≡ under (prevailing x r) h
unfolding under
prevailing_under x h None = elim (true_or_false (ltb x.label h)) [ inl y ↦ ap (λ b. b || false) y ∙ sym y | inr n ↦ ap (λ b. b || false) n ∙ sym n ]
prevailing_under x h (Some y) = elim (true_or_false (ltb x.label h)) [
  | inl a ↦ let p = ltb-true x.label h a in ap (λ b. b || ltb y.label h) a ∙ sym (lt-ltb (min x.label y.label) h (omega arith))
  | inr a ↦
      let p = ltb-false x.label h a in
      elim (true_or_false (ltb y.label h)) [
        | inl b ↦ let q = ltb-true y.label h b in or_right (ltb x.label h) (ltb y.label h) b ∙ sym (lt-ltb (min x.label y.label) h (omega arith))
        | inr b ↦ let q = ltb-false y.label h b in ap (λ z. z || ltb y.label h) a ∙ (b ∙ sym (le-ltb (min x.label y.label) h (omega arith)))
      ]
]

module _ {S : Type 0} where
  mutual
    -- one that died below is below
    pub there_dead : (h : ℕ) (q : List ℕ) (n m : Node S) → at q n ≡ Some m → dead_below h m ≡ true → dead_below h n ≡ true
    there_dead h [] n m e d = ap (dead_below h) (some_same n m e) ∙ d
    there_dead h (i ∷ q) (Live l) m e d = none_some m e
    there_dead h (i ∷ q) (Ended l) m e d = none_some m e
    there_dead h (i ∷ q) (Dead l x) m e d = none_some m e
    there_dead h (i ∷ q) (Forked l ks) m e d = there_dead_in h i q ks m e d

    pub there_dead_in : (h i : ℕ) (q : List ℕ) (ks : Nodes S) (m : Node S) → child_at i q ks ≡ Some m → dead_below h m ≡ true → any_dead_below h ks ≡ true
    there_dead_in h i q no_node m e d = none_some m e
    there_dead_in h zero q (node_and k ks) m e d = or_left (dead_below h k) (any_dead_below h ks) (there_dead h q k m e d)
    there_dead_in h (suc i) q (node_and k ks) m e d = or_right (dead_below h k) (any_dead_below h ks) (there_dead_in h i q ks m e d)

  mutual
    -- where a node is replaced, who is dead then was dead or is in what replaces it
    pub put_dead : (h : ℕ) (q : List ℕ) (n a : Node S) → dead_below h (put q a n) ≡ true → (dead_below h n ≡ true) ⊎ (dead_below h a ≡ true)
    put_dead h [] n a d = inr d
    put_dead h (i ∷ q) (Live l) a d = inl d
    put_dead h (i ∷ q) (Ended l) a d = inl d
    put_dead h (i ∷ q) (Dead l x) a d = inl d
    put_dead h (i ∷ q) (Forked l ks) a d = put_dead_in h i q ks a d

    pub put_dead_in : (h i : ℕ) (q : List ℕ) (ks : Nodes S) (a : Node S) → any_dead_below h (put_child i q a ks) ≡ true → (any_dead_below h ks ≡ true) ⊎ (dead_below h a ≡ true)
    put_dead_in h i q no_node a d = inl d
    put_dead_in h zero q (node_and k ks) a d = elim (either_holds (dead_below h (put q a k)) (any_dead_below h ks) d) [
      | inl y ↦ elim (put_dead h q k a y) [ inl z ↦ inl (or_left (dead_below h k) (any_dead_below h ks) z) | inr z ↦ inr z ]
      | inr y ↦ inl (or_right (dead_below h k) (any_dead_below h ks) y)
    ]
    put_dead_in h (suc i) q (node_and k ks) a d = elim (either_holds (dead_below h k) (any_dead_below h (put_child i q a ks)) d) [
      | inl y ↦ inl (or_left (dead_below h k) (any_dead_below h ks) y)
      | inr y ↦ elim (put_dead_in h i q ks a y) [ inl z ↦ inl (or_right (dead_below h k) (any_dead_below h ks) z) | inr z ↦ inr z ]
    ]

  mutual
    -- and who was dead is still, where what replaces it has one that died
    dead_put : (h : ℕ) (q : List ℕ) (n m a : Node S) → at q n ≡ Some m → (dead_below h m ≡ true → dead_below h a ≡ true) → dead_below h n ≡ true → dead_below h (put q a n) ≡ true
    dead_put h [] n m a e f d = f (ap (dead_below h) (sym (some_same n m e)) ∙ d)
    dead_put h (i ∷ q) (Live l) m a e f d = none_some m e
    dead_put h (i ∷ q) (Ended l) m a e f d = none_some m e
    dead_put h (i ∷ q) (Dead l x) m a e f d = none_some m e
    dead_put h (i ∷ q) (Forked l ks) m a e f d = dead_put_in h i q ks m a e f d

    pub dead_put_in : (h i : ℕ) (q : List ℕ) (ks : Nodes S) (m a : Node S) → child_at i q ks ≡ Some m → (dead_below h m ≡ true → dead_below h a ≡ true) → any_dead_below h ks ≡ true → any_dead_below h (put_child i q a ks) ≡ true
    dead_put_in h i q no_node m a e f d = none_some m e
    dead_put_in h zero q (node_and k ks) m a e f d = elim (either_holds (dead_below h k) (any_dead_below h ks) d) [
      | inl y ↦ or_left (dead_below h (put q a k)) (any_dead_below h ks) (dead_put h q k m a e f y)
      | inr y ↦ or_right (dead_below h (put q a k)) (any_dead_below h ks) y
    ]
    dead_put_in h (suc i) q (node_and k ks) m a e f d = elim (either_holds (dead_below h k) (any_dead_below h ks) d) [
      | inl y ↦ or_left (dead_below h k) (any_dead_below h (put_child i q a ks)) y
      | inr y ↦ or_right (dead_below h k) (any_dead_below h (put_child i q a ks)) (dead_put_in h i q ks m a e f y)
    ]

  mutual
    -- what replaces a node stands in its place
    pub at_put : (q : List ℕ) (n m a : Node S) → at q n ≡ Some m → at q (put q a n) ≡ Some a
    at_put [] n m a e = refl
    at_put (i ∷ q) (Live l) m a e = none_some m e
    at_put (i ∷ q) (Ended l) m a e = none_some m e
    at_put (i ∷ q) (Dead l x) m a e = none_some m e
    at_put (i ∷ q) (Forked l ks) m a e = at_put_in i q ks m a e

    pub at_put_in : (i : ℕ) (q : List ℕ) (ks : Nodes S) (m a : Node S) → child_at i q ks ≡ Some m → child_at i q (put_child i q a ks) ≡ Some a
    at_put_in i q no_node m a e = none_some m e
    at_put_in zero q (node_and k ks) m a e = at_put q k m a e
    at_put_in (suc i) q (node_and k ks) m a e = at_put_in i q ks m a e

  -- none of those that live is dead
  pub none_dead : (h : ℕ) (ls : List S) → any_dead_below h (all_live ls) ≡ false
  none_dead h [] = refl
  none_dead h (l ∷ ls) = none_dead h ls

  -- of children that are done the prevailing death decides
  done_dead : (h : ℕ) (ks : Nodes S) → all_done ks ≡ true → any_dead_below h ks ≡ under (prevailing_death ks) h
  unfolding under
  done_dead h no_node d = refl
  done_dead h (node_and (Live l) ks) d = absurd cc
  done_dead h (node_and (Forked l js) ks) d = absurd cc
  done_dead h (node_and (Ended l) ks) d = done_dead h ks d
  done_dead h (node_and (Dead l x) ks) d = ap (λ b. ltb x.label h || b) (done_dead h ks d) ∙ prevailing_under x h (prevailing_death ks)

  pub done_none : (h : ℕ) (ks : Nodes S) → all_done ks ≡ true → prevailing_death ks ≡ None → any_dead_below h ks ≡ false
  unfolding under
  done_none h ks d e = done_dead h ks d ∙ ap (λ z. under z h) e

  pub done_some : (h : ℕ) (x : Death) (ks : Nodes S) → all_done ks ≡ true → prevailing_death ks ≡ Some x → any_dead_below h ks ≡ ltb x.label h
  unfolding under
  done_some h x ks d e = done_dead h ks d ∙ ap (λ z. under z h) e

  pub done_least : (x : Death) (ks : Nodes S) → all_done ks ≡ true → prevailing_death ks ≡ Some x → IsLeast x.label ks
  done_least x ks d e = record { some = done_some (suc x.label) x ks d e ∙ lt-ltb x.label (suc x.label) (omega arith); none = done_some x.label x ks d e ∙ le-ltb x.label x.label (omega arith) }
