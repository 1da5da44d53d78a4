-- Whether here or below a process died of a label with a number, and where a node is replaced.
use Rattle.std.proofs.Common.{◌≡◌, ◌≤◌, ◌<◌, ℕ, ℤ, zero, suc, true, false, Option, Some, None, List, [], ◌∷◌, ◌⊎◌, inl, inr, cond, min, ltb, refl, sym, ap, subst, ◌∙◌, arith, ltb-true, ltb-false, lt-ltb}
use Rattle.std.specs.Option.{option_or}
use Rattle.shim_semantics.specs.Nodes.{Node, Nodes, Live, Forked, Ended, Dead, Death, no_node, node_and, all_done, all_live, outermost, outermost_given, prevailing, prevailing_death}
use Rattle.shim_semantics.specs.Places.{at, child_at}
use Rattle.shim_semantics.proofs.HowMany.{clash}
use Rattle.shim_semantics.proofs.ReplacedNodes.{put, put_child}
use Rattle.shim_laws_schedules.proofs.DeadBelow.{dead_below, any_dead_below, done_none, done_some}
use Rattle.shim_base.proofs.Facts.{some_same, none_some, true_or_false, or_left, or_right}

abbrev mutual
  -- here or below one died of this very label with this number
  pub DiedWith : {S : Type 0} → ℕ → ℤ → Node S → Type 0
  DiedWith x v (Live l) = ⊥
  DiedWith x v (Forked l ks) = AnyDiedWith x v ks
  DiedWith x v (Ended l) = ⊥
  DiedWith x v (Dead l d) = (d.label ≡ x) × (d.given ≡ Some v)

  pub AnyDiedWith : {S : Type 0} → ℕ → ℤ → Nodes S → Type 0
  AnyDiedWith x v no_node = ⊥
  AnyDiedWith x v (node_and k ks) = DiedWith x v k ⊎ AnyDiedWith x v ks

first_least : (a b : ℕ) → a < b → a ≡ min a b
first_least a b e = omega arith

second_least : (a b : ℕ) → b < a → b ≡ min a b
second_least a b e = omega arith

both_least : (a b : ℕ) → b ≤ a → a ≤ b → a ≡ min a b
both_least a b e f = omega arith

both_least_second : (a b : ℕ) → b ≤ a → a ≤ b → b ≡ min a b
both_least_second a b e f = omega arith

not_lower : {A : Type 0} (a b x : ℕ) → min a b ≡ x → a ≡ x → b < a → A
not_lower a b x e f g = absurd (omega (arith, e, f, g))

not_lower_first : {A : Type 0} (a b x : ℕ) → min a b ≡ x → b ≡ x → a < b → A
not_lower_first a b x e f g = absurd (omega (arith, e, f, g))

no_higher_least : (a b x : ℕ) → min a b ≡ x → x ≤ b
no_higher_least a b x e = omega arith

up_to : (a x : ℕ) → a < suc x → a ≤ x
up_to a x e = omega arith

equal_bounds : (a x : ℕ) → a ≤ x → x ≤ a → a ≡ x
equal_bounds a x e f = omega arith

one_up : (a x : ℕ) → a ≡ x → a < suc x
one_up a x e = omega arith

-- of which of two deaths the number of the outermost is
given_of : (d e : Death) (v : ℤ) → outermost_given d e ≡ Some v → ((d.label ≡ min d.label e.label) × (d.given ≡ Some v)) ⊎ ((e.label ≡ min d.label e.label) × (e.given ≡ Some v))
given_of d e v h = elim (true_or_false (ltb d.label e.label)) [
  | inl y ↦ inl (first_least d.label e.label (ltb-true d.label e.label y), sym (ap (λ b. cond b d.given (cond (ltb e.label d.label) e.given (option_or d.given e.given))) y) ∙ h)
  | inr n ↦
      let on : cond (ltb e.label d.label) e.given (option_or d.given e.given) ≡ Some v = sym (ap (λ b. cond b d.given (cond (ltb e.label d.label) e.given (option_or d.given e.given))) n) ∙ h in
      elim (true_or_false (ltb e.label d.label)) [
        | inl y ↦ inr (second_least d.label e.label (ltb-true e.label d.label y), sym (ap (λ b. cond b e.given (option_or d.given e.given)) y) ∙ on)
        | inr m ↦
            let low = ltb-false d.label e.label n in
            let high = ltb-false e.label d.label m in
            first_or_second d.given refl (both_least d.label e.label low high) (both_least_second d.label e.label low high) (sym (ap (λ b. cond b e.given (option_or d.given e.given)) m) ∙ on)
      ]
]
  where
    first_or_second : (r : Option ℤ) → d.given ≡ r → d.label ≡ min d.label e.label → e.label ≡ min d.label e.label → option_or r e.given ≡ Some v → ((d.label ≡ min d.label e.label) × (d.given ≡ Some v)) ⊎ ((e.label ≡ min d.label e.label) × (e.given ≡ Some v))
    first_or_second None is a b f = inr (b, f)
    first_or_second (Some w) is a b f = inl (a, is ∙ f)

-- where the first of two has the least label and a number, the outermost has that
first_gives : (d e : Death) (x : ℕ) (v : ℤ) → min d.label e.label ≡ x → d.label ≡ x → d.given ≡ Some v → outermost_given d e ≡ Some v
first_gives d e x v is at has = elim (true_or_false (ltb d.label e.label)) [
  | inl y ↦ ap (λ b. cond b d.given (cond (ltb e.label d.label) e.given (option_or d.given e.given))) y ∙ has
  | inr n ↦ ap (λ b. cond b d.given (cond (ltb e.label d.label) e.given (option_or d.given e.given))) n ∙ elim (true_or_false (ltb e.label d.label)) [
    | inl y ↦ not_lower d.label e.label x is at (ltb-true e.label d.label y)
    | inr m ↦ ap (λ b. cond b e.given (option_or d.given e.given)) m ∙ ap (λ z. option_or z e.given) has
  ]
]

-- and where the second has, the outermost has one
second_gives : (d e : Death) (x : ℕ) (v : ℤ) → min d.label e.label ≡ x → e.label ≡ x → e.given ≡ Some v → (w : ℤ) × (outermost_given d e ≡ Some w)
second_gives d e x v is at has = elim (true_or_false (ltb d.label e.label)) [
  | inl y ↦ not_lower_first d.label e.label x is at (ltb-true d.label e.label y)
  | inr n ↦ elim (true_or_false (ltb e.label d.label)) [
    | inl y ↦ (v, ap (λ b. cond b d.given (cond (ltb e.label d.label) e.given (option_or d.given e.given))) n ∙ (ap (λ b. cond b e.given (option_or d.given e.given)) y ∙ has))
    | inr m ↦ let w = some_given d.given refl in (w.0, ap (λ b. cond b d.given (cond (ltb e.label d.label) e.given (option_or d.given e.given))) n ∙ (ap (λ b. cond b e.given (option_or d.given e.given)) m ∙ w.1))
  ]
]
  where
    some_given : (r : Option ℤ) → d.given ≡ r → (w : ℤ) × (option_or d.given e.given ≡ Some w)
    some_given None f = (v, ap (λ z. option_or z e.given) f ∙ has)
    some_given (Some u) f = (u, ap (λ z. option_or z e.given) f)

module _ {S : Type 0} where
  -- none of those that live
  pub none_died : (x : ℕ) (v : ℤ) (ls : List S) → AnyDiedWith x v (all_live ls) → ⊥
  none_died x v [] h = h
  none_died x v (l ∷ ls) h = elim h [ inl y ↦ y | inr y ↦ none_died x v ls y ]

  mutual
    -- who died with a number died
    pub died_dead : (x : ℕ) (v : ℤ) (t : ℕ) (n : Node S) → x < t → DiedWith x v n → dead_below t n ≡ true
    died_dead x v t (Live l) h d = absurd d
    died_dead x v t (Ended l) h d = absurd d
    died_dead x v t (Dead l e) h d = ap (λ z. ltb z t) d.0 ∙ lt-ltb x t h
    died_dead x v t (Forked l ks) h d = any_died_dead x v t ks h d

    pub any_died_dead : (x : ℕ) (v : ℤ) (t : ℕ) (ks : Nodes S) → x < t → AnyDiedWith x v ks → any_dead_below t ks ≡ true
    any_died_dead x v t no_node h d = absurd d
    any_died_dead x v t (node_and k ks) h d = elim d [
      | inl y ↦ or_left (dead_below t k) (any_dead_below t ks) (died_dead x v t k h y)
      | inr y ↦ or_right (dead_below t k) (any_dead_below t ks) (any_died_dead x v t ks h y)
    ]

  mutual
    there_died : (x : ℕ) (v : ℤ) (q : List ℕ) (n m : Node S) → at q n ≡ Some m → DiedWith x v m → DiedWith x v n
    there_died x v [] n m e d = subst (DiedWith x v) (sym (some_same n m e)) d
    there_died x v (i ∷ q) (Live l) m e d = none_some m e
    there_died x v (i ∷ q) (Ended l) m e d = none_some m e
    there_died x v (i ∷ q) (Dead l y) m e d = none_some m e
    there_died x v (i ∷ q) (Forked l ks) m e d = there_died_in x v i q ks m e d

    pub there_died_in : (x : ℕ) (v : ℤ) (i : ℕ) (q : List ℕ) (ks : Nodes S) (m : Node S) → child_at i q ks ≡ Some m → DiedWith x v m → AnyDiedWith x v ks
    there_died_in x v i q no_node m e d = none_some m e
    there_died_in x v zero q (node_and k ks) m e d = inl (there_died x v q k m e d)
    there_died_in x v (suc i) q (node_and k ks) m e d = inr (there_died_in x v i q ks m e d)

  mutual
    -- where a node is replaced, who died then had died or is in what replaces it
    put_died : (x : ℕ) (v : ℤ) (q : List ℕ) (n a : Node S) → DiedWith x v (put q a n) → DiedWith x v n ⊎ DiedWith x v a
    put_died x v [] n a d = inr d
    put_died x v (i ∷ q) (Live l) a d = inl d
    put_died x v (i ∷ q) (Ended l) a d = inl d
    put_died x v (i ∷ q) (Dead l y) a d = inl d
    put_died x v (i ∷ q) (Forked l ks) a d = put_died_in x v i q ks a d

    pub put_died_in : (x : ℕ) (v : ℤ) (i : ℕ) (q : List ℕ) (ks : Nodes S) (a : Node S) → AnyDiedWith x v (put_child i q a ks) → AnyDiedWith x v ks ⊎ DiedWith x v a
    put_died_in x v i q no_node a d = inl d
    put_died_in x v zero q (node_and k ks) a d = elim d [
      | inl y ↦ elim (put_died x v q k a y) [ inl z ↦ inl (inl z) | inr z ↦ inr z ]
      | inr y ↦ inl (inr y)
    ]
    put_died_in x v (suc i) q (node_and k ks) a d = elim d [
      | inl y ↦ inl (inl y)
      | inr y ↦ elim (put_died_in x v i q ks a y) [ inl z ↦ inl (inr z) | inr z ↦ inr z ]
    ]

  -- one died of the label with some number
  abbrev pub Numbered : ℕ → Node S → Type 0
  Numbered x n = (v : ℤ) × DiedWith x v n

  abbrev pub AnyNumbered : ℕ → Nodes S → Type 0
  AnyNumbered x ks = (v : ℤ) × AnyDiedWith x v ks

  mutual
    -- and such a one is there still, where what replaces a node has one if that did
    died_put : (x : ℕ) (v : ℤ) (q : List ℕ) (n m a : Node S) → at q n ≡ Some m → (DiedWith x v m → Numbered x a) → DiedWith x v n → Numbered x (put q a n)
    died_put x v [] n m a e f d = f (subst (DiedWith x v) (some_same n m e) d)
    died_put x v (i ∷ q) (Live l) m a e f d = none_some m e
    died_put x v (i ∷ q) (Ended l) m a e f d = none_some m e
    died_put x v (i ∷ q) (Dead l y) m a e f d = none_some m e
    died_put x v (i ∷ q) (Forked l ks) m a e f d = died_put_in x v i q ks m a e f d

    pub died_put_in : (x : ℕ) (v : ℤ) (i : ℕ) (q : List ℕ) (ks : Nodes S) (m a : Node S) → child_at i q ks ≡ Some m → (DiedWith x v m → Numbered x a) → AnyDiedWith x v ks → AnyNumbered x (put_child i q a ks)
    died_put_in x v i q no_node m a e f d = none_some m e
    died_put_in x v zero q (node_and k ks) m a e f d = elim d [
      | inl y ↦ let w = died_put x v q k m a e f y in (w.0, inl w.1)
      | inr y ↦ (v, inr y)
    ]
    died_put_in x v (suc i) q (node_and k ks) m a e f d = elim d [
      | inl y ↦ (v, inl y)
      | inr y ↦ let w = died_put_in x v i q ks m a e f y in (w.0, inr w.1)
    ]

  -- the number of the prevailing death is that of one who died of its label
  pub prevailing_gives : (ks : Nodes S) (d : Death) (v : ℤ) → prevailing_death ks ≡ Some d → d.given ≡ Some v → AnyDiedWith d.label v ks
  prevailing_gives no_node d v e g = none_some d e
  prevailing_gives (node_and (Live k) ks) d v e g = inr (prevailing_gives ks d v e g)
  prevailing_gives (node_and (Forked k js) ks) d v e g = inr (prevailing_gives ks d v e g)
  prevailing_gives (node_and (Ended k) ks) d v e g = inr (prevailing_gives ks d v e g)
  prevailing_gives (node_and (Dead k y) ks) d v e g = with_rest (prevailing_death ks) (λ z is has. prevailing_gives ks z v is has) e
    where
      with_rest : (r : Option Death) → ((z : Death) → r ≡ Some z → z.given ≡ Some v → AnyDiedWith z.label v ks) → prevailing y r ≡ Some d → ((y.label ≡ d.label) × (y.given ≡ Some v)) ⊎ AnyDiedWith d.label v ks
      with_rest None h f = let is = some_same y d f in inl (ap (λ z. z.label) is, ap (λ z. z.given) is ∙ g)
      with_rest (Some z) h f =
          let is = some_same (outermost y z) d f in
          let label : min y.label z.label ≡ d.label = ap (λ w. w.label) is in
          elim (given_of y z v (ap (λ w. w.given) is ∙ g)) [
            | inl a ↦ inl (a.0 ∙ label, a.1)
            | inr a ↦ inr (subst (λ w. AnyDiedWith w v ks) (a.0 ∙ label) (h z refl a.1))
          ]

  -- where one of children that are done died of the label of the prevailing death with a number, that has one
  pub prevailing_numbered : (ks : Nodes S) (x : ℕ) (v : ℤ) (d : Death) → all_done ks ≡ true → AnyDiedWith x v ks → prevailing_death ks ≡ Some d → d.label ≡ x → (w : ℤ) × (d.given ≡ Some w)
  prevailing_numbered no_node x v d h a e f = absurd a
  prevailing_numbered (node_and (Live k) ks) x v d h a e f = absurd cc
  prevailing_numbered (node_and (Forked k js) ks) x v d h a e f = absurd cc
  prevailing_numbered (node_and (Ended k) ks) x v d h a e f = elim a [ inl y ↦ absurd y | inr y ↦ prevailing_numbered ks x v d h y e f ]
  prevailing_numbered (node_and (Dead k y) ks) x v d h a e f = elim a [
    | inl own ↦ first (prevailing_death ks) own e
    | inr more ↦ further (prevailing_death ks) refl (λ z at same. prevailing_numbered ks x v z h more at same) more e
  ]
    where
      first : (r : Option Death) → (y.label ≡ x) × (y.given ≡ Some v) → prevailing y r ≡ Some d → (w : ℤ) × (d.given ≡ Some w)
      first None own g = (v, ap (λ z. z.given) (sym (some_same y d g)) ∙ own.1)
      first (Some z) own g =
          let is = some_same (outermost y z) d g in
          (v, ap (λ w. w.given) (sym is) ∙ first_gives y z x v (ap (λ w. w.label) is ∙ f) own.0 own.1)

      further : (r : Option Death) → prevailing_death ks ≡ r → ((z : Death) → prevailing_death ks ≡ Some z → z.label ≡ x → (w : ℤ) × (z.given ≡ Some w)) → AnyDiedWith x v ks → prevailing y r ≡ Some d → (w : ℤ) × (d.given ≡ Some w)
      further None at rest more g = clash (any_dead_below (suc x) ks) (any_died_dead x v (suc x) ks (one_up x x refl) more) (done_none (suc x) ks h at)
      further (Some z) at rest more g =
          let is = some_same (outermost y z) d g in
          let least : min y.label z.label ≡ x = ap (λ w. w.label) is ∙ f in
          let low : z.label ≤ x = up_to z.label x (ltb-true z.label (suc x) (sym (done_some (suc x) z ks h at) ∙ any_died_dead x v (suc x) ks (one_up x x refl) more)) in
          let same : z.label ≡ x = equal_bounds z.label x low (no_higher_least y.label z.label x least) in
          let w = rest z at same in
          let u = second_gives y z x w.0 least same w.1 in
          (u.0, ap (λ w. w.given) (sym is) ∙ u.1)
