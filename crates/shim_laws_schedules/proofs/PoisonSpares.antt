-- A poison changes no least label of the dead below a fork that could be caught there.
use Rattle.std.proofs.Common.{◌≡◌, ◌≤◌, ◌<◌, ◌+◌, ◌-◌, ℕ, zero, suc, Bool, true, false, Option, Some, None, List, [], ◌∷◌, ◌⊎◌, inl, inr, cond, ltb, sym, ap, subst, ◌∙◌, arith, ltb-true, lt-ltb}
use Rattle.shim_base.specs.Paths.{Channel}
use Rattle.shim_local.specs.Process.{Ops}
use Rattle.shim_local.specs.Laws.{LocalLaws}
use Rattle.shim_semantics.specs.Nodes.{Node, Nodes, Live, Forked, Ended, Dead, Death, death, no_node, node_and, state}
use Rattle.shim_semantics.specs.Poison.{dooms, any_dooms, is_doomed, is_ready_child, can_poison, poisoned, all_poisoned, one_poisoned, poison, poison_child, poison_route, to_fork, last_branch}
use Rattle.shim_semantics.specs.Places.{at, child_at, SoundBelow, SoundChildren}
use Rattle.shim_semantics.proofs.HowMany.{clash, no_less_than}
use Rattle.shim_laws_schedules.proofs.Dooms.{same_bound}
use Rattle.shim_laws_schedules.proofs.Kills.{above_some, after_some}
use Rattle.shim_laws_schedules.proofs.DeadBelow.{dead_below, any_dead_below, IsLeast}
use Rattle.shim_laws_schedules.proofs.Stood.{Stood, base_below}
use Rattle.shim_laws_schedules.proofs.Forks.{same_fork}
use Rattle.shim_base.proofs.Facts.{none_some, second_holds, either_holds, cond_some, true_or_false, or_left, or_right, false_unless}
use Rattle.shim_semantics.proofs.PoisonStays.{before_some}

next_up_to : (x h : ℕ) → x < h → suc x ≤ h
next_up_to x h e = omega arith

-- a bound above the innermost label in force and not above the handlers is their number
the_handlers : (t h : ℕ) → h - 1 < t → t ≤ h → 1 ≤ h → h ≡ t
the_handlers t h e f g = omega arith

innermost_under : (h b x : ℕ) → 1 ≤ h → h ≤ b → b ≤ x → h - 1 < x
innermost_under h b x e f g = omega arith

module _ {S : Type 0} (o : Ops S) where
  mutual
    doomed_dead : (h : ℕ) (c : Channel) (n : Node S) → dooms o h c n ≡ true → dead_below h n ≡ true
    doomed_dead h c (Live l) d = d
    doomed_dead h c (Ended l) d = d
    doomed_dead h c (Dead l x) d = second_holds (o.shares l c) (ltb x.label h) d
    doomed_dead h c (Forked l ks) d = any_doomed_dead h c ks d

    any_doomed_dead : (h : ℕ) (c : Channel) (ks : Nodes S) → any_dooms o h c ks ≡ true → any_dead_below h ks ≡ true
    any_doomed_dead h c no_node d = d
    any_doomed_dead h c (node_and k ks) d = elim (either_holds (dooms o h c k) (any_dooms o h c ks) d) [
      | inl y ↦ or_left (dead_below h k) (any_dead_below h ks) (doomed_dead h c k y)
      | inr y ↦ or_right (dead_below h k) (any_dead_below h ks) (any_doomed_dead h c ks y)
    ]

  is_doomed_dead : (h : ℕ) (c : Channel) (i : ℕ) (ks : Nodes S) → is_doomed o h c i ks ≡ true → any_dead_below h ks ≡ true
  is_doomed_dead h c i no_node d = absurd cc
  is_doomed_dead h c zero (node_and k ks) d = or_right (dead_below h k) (any_dead_below h ks) (any_doomed_dead h c ks d)
  is_doomed_dead h c (suc i) (node_and k ks) d = elim (either_holds (dooms o h c k) (is_doomed o h c i ks) d) [
    | inl y ↦ or_left (dead_below h k) (any_dead_below h ks) (doomed_dead h c k y)
    | inr y ↦ or_right (dead_below h k) (any_dead_below h ks) (is_doomed_dead h c i ks y)
  ]

  -- who was dead is still
  live_poisoned : (c : Channel) (x : Death) (t : ℕ) (l : S) → dead_below t (poisoned o c x (Live l)) ≡ true → x.label < t
  live_poisoned c x t l d = elim (true_or_false (o.shares l c)) [
    | inl y ↦ ltb-true x.label t (sym (ap (λ b. dead_below t (cond b (Dead l x) (Live l))) y) ∙ d)
    | inr n ↦ clash (dead_below t (poisoned o c x (Live l))) d (ap (λ b. dead_below t (cond b (Dead l x) (Live l))) n)
  ]

  live_dies : (c : Channel) (x : Death) (t u : ℕ) (l : S) → dead_below t (poisoned o c x (Live l)) ≡ true → x.label < u → dead_below u (poisoned o c x (Live l)) ≡ true
  live_dies c x t u l d h = elim (true_or_false (o.shares l c)) [
    | inl y ↦ ap (λ b. dead_below u (cond b (Dead l x) (Live l))) y ∙ lt-ltb x.label u h
    | inr n ↦ clash (dead_below t (poisoned o c x (Live l))) d (ap (λ b. dead_below t (cond b (Dead l x) (Live l))) n)
  ]

  mutual
    dead_poisoned : (c : Channel) (x : Death) (t : ℕ) (n : Node S) → dead_below t n ≡ true → dead_below t (poisoned o c x n) ≡ true
    dead_poisoned c x t (Live l) d = absurd cc
    dead_poisoned c x t (Ended l) d = d
    dead_poisoned c x t (Dead l y) d = d
    dead_poisoned c x t (Forked l ks) d = all_dead_poisoned c x t ks d

    all_dead_poisoned : (c : Channel) (x : Death) (t : ℕ) (ks : Nodes S) → any_dead_below t ks ≡ true → any_dead_below t (all_poisoned o c x ks) ≡ true
    all_dead_poisoned c x t no_node d = d
    all_dead_poisoned c x t (node_and k ks) d = elim (either_holds (dead_below t k) (any_dead_below t ks) d) [
      | inl y ↦ or_left (dead_below t (poisoned o c x k)) (any_dead_below t (all_poisoned o c x ks)) (dead_poisoned c x t k y)
      | inr y ↦ or_right (dead_below t (poisoned o c x k)) (any_dead_below t (all_poisoned o c x ks)) (all_dead_poisoned c x t ks y)
    ]

  one_dead_poisoned : (c : Channel) (x : Death) (t i : ℕ) (ks : Nodes S) → any_dead_below t ks ≡ true → any_dead_below t (one_poisoned o c x i ks) ≡ true
  one_dead_poisoned c x t i no_node d = d
  one_dead_poisoned c x t zero (node_and k ks) d = elim (either_holds (dead_below t k) (any_dead_below t ks) d) [
    | inl y ↦ or_left (dead_below t (poisoned o c x k)) (any_dead_below t ks) (dead_poisoned c x t k y)
    | inr y ↦ or_right (dead_below t (poisoned o c x k)) (any_dead_below t ks) y
  ]
  one_dead_poisoned c x t (suc i) (node_and k ks) d = elim (either_holds (dead_below t k) (any_dead_below t ks) d) [
    | inl y ↦ or_left (dead_below t k) (any_dead_below t (one_poisoned o c x i ks)) y
    | inr y ↦ or_right (dead_below t k) (any_dead_below t (one_poisoned o c x i ks)) (one_dead_poisoned c x t i ks y)
  ]

  -- the label of the poison is below this bound, and then someone is dead below each bound above it
  pub record Dies (x t : ℕ) (n : ℕ → Bool) : Type 0 where
    pub lower : x < t
    pub every : (u : ℕ) → x < u → n u ≡ true

  mutual
    -- who is dead then was dead, or died of the poison
    poisoned_dead : (c : Channel) (x : Death) (t : ℕ) (n : Node S) → dead_below t (poisoned o c x n) ≡ true → (dead_below t n ≡ true) ⊎ Dies x.label t (λ u. dead_below u (poisoned o c x n))
    poisoned_dead c x t (Live l) d = inr (record { lower = live_poisoned c x t l d; every = λ u h. live_dies c x t u l d h })
    poisoned_dead c x t (Ended l) d = inl d
    poisoned_dead c x t (Dead l y) d = inl d
    poisoned_dead c x t (Forked l ks) d = all_poisoned_dead c x t ks d

    all_poisoned_dead : (c : Channel) (x : Death) (t : ℕ) (ks : Nodes S) → any_dead_below t (all_poisoned o c x ks) ≡ true → (any_dead_below t ks ≡ true) ⊎ Dies x.label t (λ u. any_dead_below u (all_poisoned o c x ks))
    all_poisoned_dead c x t no_node d = inl d
    all_poisoned_dead c x t (node_and k ks) d = elim (either_holds (dead_below t (poisoned o c x k)) (any_dead_below t (all_poisoned o c x ks)) d) [
      | inl y ↦ elim (poisoned_dead c x t k y) [
        | inl z ↦ inl (or_left (dead_below t k) (any_dead_below t ks) z)
        | inr z ↦ inr (record { lower = z.lower; every = λ u h. or_left (dead_below u (poisoned o c x k)) (any_dead_below u (all_poisoned o c x ks)) (z.every u h) })
      ]
      | inr y ↦ elim (all_poisoned_dead c x t ks y) [
        | inl z ↦ inl (or_right (dead_below t k) (any_dead_below t ks) z)
        | inr z ↦ inr (record { lower = z.lower; every = λ u h. or_right (dead_below u (poisoned o c x k)) (any_dead_below u (all_poisoned o c x ks)) (z.every u h) })
      ]
    ]

  one_poisoned_dead : (c : Channel) (x : Death) (t i : ℕ) (ks : Nodes S) → any_dead_below t (one_poisoned o c x i ks) ≡ true → (any_dead_below t ks ≡ true) ⊎ (x.label < t)
  one_poisoned_dead c x t i no_node d = inl d
  one_poisoned_dead c x t zero (node_and k ks) d = elim (either_holds (dead_below t (poisoned o c x k)) (any_dead_below t ks) d) [
    | inl y ↦ elim (poisoned_dead c x t k y) [ inl z ↦ inl (or_left (dead_below t k) (any_dead_below t ks) z) | inr z ↦ inr z.lower ]
    | inr y ↦ inl (or_right (dead_below t k) (any_dead_below t ks) y)
  ]
  one_poisoned_dead c x t (suc i) (node_and k ks) d = elim (either_holds (dead_below t k) (any_dead_below t (one_poisoned o c x i ks)) d) [
    | inl y ↦ inl (or_left (dead_below t k) (any_dead_below t ks) y)
    | inr y ↦ elim (one_poisoned_dead c x t i ks y) [ inl z ↦ inl (or_right (dead_below t k) (any_dead_below t ks) z) | inr z ↦ inr z ]
  ]

  -- at the fork of the poison someone was dead of a label in force there
  here_dead : (c : Channel) (i t : ℕ) (l : S) (ks : Nodes S) → can_poison o l c i ks ≡ true → 1 ≤ o.handlers l → t ≤ o.handlers l → any_dead_below t (one_poisoned o c (death (o.handlers l - 1)) i ks) ≡ true → any_dead_below t ks ≡ true
  here_dead c i t l ks can some h d = elim (one_poisoned_dead c (death (o.handlers l - 1)) t i ks d) [
    | inl y ↦ y
    | inr y ↦ subst (λ z. any_dead_below z ks ≡ true) (the_handlers t (o.handlers l) y h some)
        (is_doomed_dead (o.handlers l) c i ks (second_holds (is_ready_child o c i ks) (is_doomed o (o.handlers l) c i ks) can))
  ]

  -- so it is at each fork above it, as to labels in force there
  mutual
    poison_dead : LocalLaws o → (c : Channel) (i t : ℕ) (q : List ℕ) (n m : Node S) → SoundBelow o n → t ≤ o.base (state n) → poison o c i q n ≡ Some m → dead_below t m ≡ true → dead_below t n ≡ true
    poison_dead law c i t [] (Live l) m s h e d = none_some m e
    poison_dead law c i t [] (Ended l) m s h e d = none_some m e
    poison_dead law c i t [] (Dead l x) m s h e d = none_some m e
    poison_dead law c i t [] (Forked l ks) m s h e d =
        let w = cond_some (can_poison o l c i ks) (Forked l (one_poisoned o c (death (o.handlers l - 1)) i ks)) m e in
        let some = no_less_than (o.handlers l) (o.base l) 1 (law.base_least l s.sound) (law.base_most l s.sound) in
        here_dead c i t l ks w.0 some (no_less_than (o.handlers l) (o.base l) t h (law.base_most l s.sound)) (ap (dead_below t) w.1 ∙ d)
    poison_dead law c i t (b ∷ q) (Live l) m s h e d = none_some m e
    poison_dead law c i t (b ∷ q) (Ended l) m s h e d = none_some m e
    poison_dead law c i t (b ∷ q) (Dead l x) m s h e d = none_some m e
    poison_dead law c i t (b ∷ q) (Forked l ks) m s h e d =
        let r = above_some l (poison_child o c i b q ks) m e in
        poison_dead_in law c i t b q l s.number 0 ks r.0 s.children (no_less_than (o.handlers l) (o.base l) t h (law.base_most l s.sound)) r.1 (ap (dead_below t) r.2 ∙ d)

    poison_dead_in : LocalLaws o → (c : Channel) (i t b : ℕ) (q : List ℕ) (l : S) (f j : ℕ) (ks js : Nodes S) → SoundChildren o l f j ks → t ≤ o.handlers l → poison_child o c i b q ks ≡ Some js → any_dead_below t js ≡ true → any_dead_below t ks ≡ true
    poison_dead_in law c i t b q l f j no_node js s h e d = none_some js e
    poison_dead_in law c i t zero q l f j (node_and k ks) js s h e d =
        let r = before_some ks (poison o c i q k) js e in
        elim (either_holds (dead_below t r.0) (any_dead_below t ks) (ap (any_dead_below t) r.2 ∙ d)) [
          | inl y ↦ or_left (dead_below t k) (any_dead_below t ks) (poison_dead law c i t q k r.0 s.1 (same_bound t (o.handlers l) (o.base (state k)) h s.0.base) r.1 y)
          | inr y ↦ or_right (dead_below t k) (any_dead_below t ks) y
        ]
    poison_dead_in law c i t (suc b) q l f j (node_and k ks) js s h e d =
        let r = after_some k (poison_child o c i b q ks) js e in
        elim (either_holds (dead_below t k) (any_dead_below t r.0) (ap (any_dead_below t) r.2 ∙ d)) [
          | inl y ↦ or_left (dead_below t k) (any_dead_below t ks) y
          | inr y ↦ or_right (dead_below t k) (any_dead_below t ks) (poison_dead_in law c i t b q l f (j + 1) ks r.0 s.2 h r.1 y)
        ]

  mutual
    still_dead : (c : Channel) (i t : ℕ) (q : List ℕ) (n m : Node S) → poison o c i q n ≡ Some m → dead_below t n ≡ true → dead_below t m ≡ true
    still_dead c i t [] (Live l) m e d = none_some m e
    still_dead c i t [] (Ended l) m e d = none_some m e
    still_dead c i t [] (Dead l x) m e d = none_some m e
    still_dead c i t [] (Forked l ks) m e d =
        let w = cond_some (can_poison o l c i ks) (Forked l (one_poisoned o c (death (o.handlers l - 1)) i ks)) m e in
        ap (dead_below t) (sym w.1) ∙ one_dead_poisoned c (death (o.handlers l - 1)) t i ks d
    still_dead c i t (b ∷ q) (Live l) m e d = none_some m e
    still_dead c i t (b ∷ q) (Ended l) m e d = none_some m e
    still_dead c i t (b ∷ q) (Dead l x) m e d = none_some m e
    still_dead c i t (b ∷ q) (Forked l ks) m e d =
        let r = above_some l (poison_child o c i b q ks) m e in
        ap (dead_below t) (sym r.2) ∙ still_dead_in c i t b q ks r.0 r.1 d

    still_dead_in : (c : Channel) (i t b : ℕ) (q : List ℕ) (ks js : Nodes S) → poison_child o c i b q ks ≡ Some js → any_dead_below t ks ≡ true → any_dead_below t js ≡ true
    still_dead_in c i t b q no_node js e d = none_some js e
    still_dead_in c i t zero q (node_and k ks) js e d =
        let r = before_some ks (poison o c i q k) js e in
        ap (any_dead_below t) (sym r.2) ∙ elim (either_holds (dead_below t k) (any_dead_below t ks) d) [
          | inl y ↦ or_left (dead_below t r.0) (any_dead_below t ks) (still_dead c i t q k r.0 r.1 y)
          | inr y ↦ or_right (dead_below t r.0) (any_dead_below t ks) y
        ]
    still_dead_in c i t (suc b) q (node_and k ks) js e d =
        let r = after_some k (poison_child o c i b q ks) js e in
        ap (any_dead_below t) (sym r.2) ∙ elim (either_holds (dead_below t k) (any_dead_below t ks) d) [
          | inl y ↦ or_left (dead_below t k) (any_dead_below t r.0) y
          | inr y ↦ or_right (dead_below t k) (any_dead_below t r.0) (still_dead_in c i t b q ks r.0 r.1 y)
        ]

  -- a fork in a child that was poisoned
  pub record Poisoned (c : Channel) (x : Death) (r : Option (Node S)) (l : S) (ks : Nodes S) : Type 0 where
    pub children : Nodes S
    pub there : r ≡ Some (Forked l children)
    pub is : all_poisoned o c x children ≡ ks

  live_no_fork : {A : Type 0} (c : Channel) (x : Death) (k l : S) (ks : Nodes S) → Some (poisoned o c x (Live k)) ≡ Some (Forked l ks) → A
  live_no_fork {A} c x k l ks e = elim (o.shares k c) as (λ b. Some (cond b (Dead k x) (Live k)) ≡ Some (Forked l ks) → A) [ true ↦ λ z. absurd cc | false ↦ λ z. absurd cc ] e

  live_no_child : {A : Type 0} (c : Channel) (x : Death) (i : ℕ) (q : List ℕ) (k l : S) (ks : Nodes S) → at (i ∷ q) (poisoned o c x (Live k)) ≡ Some (Forked l ks) → A
  live_no_child {A} c x i q k l ks e = elim (o.shares k c) as (λ b. at (i ∷ q) (cond b (Dead k x) (Live k)) ≡ Some (Forked l ks) → A) [ true ↦ λ z. none_some (Forked l ks) z | false ↦ λ z. none_some (Forked l ks) z ] e

  mutual
    pub poisoned_fork : (c : Channel) (x : Death) (q : List ℕ) (n : Node S) (l : S) (ks : Nodes S) → at q (poisoned o c x n) ≡ Some (Forked l ks) → Poisoned c x (at q n) l ks
    poisoned_fork c x [] (Live k) l ks e = live_no_fork c x k l ks e
    poisoned_fork c x [] (Ended k) l ks e = absurd cc
    poisoned_fork c x [] (Dead k y) l ks e = absurd cc
    poisoned_fork c x [] (Forked k js) l ks e =
        let w = same_fork k l (all_poisoned o c x js) ks e in
        record { children = js; there = ap (λ z. Some (Forked z js)) w.0; is = w.1 }
    poisoned_fork c x (i ∷ q) (Live k) l ks e = live_no_child c x i q k l ks e
    poisoned_fork c x (i ∷ q) (Ended k) l ks e = none_some (Forked l ks) e
    poisoned_fork c x (i ∷ q) (Dead k y) l ks e = none_some (Forked l ks) e
    poisoned_fork c x (i ∷ q) (Forked k js) l ks e = all_poisoned_fork c x i q js l ks e

    all_poisoned_fork : (c : Channel) (x : Death) (i : ℕ) (q : List ℕ) (js : Nodes S) (l : S) (ks : Nodes S) → child_at i q (all_poisoned o c x js) ≡ Some (Forked l ks) → Poisoned c x (child_at i q js) l ks
    all_poisoned_fork c x i q no_node l ks e = none_some (Forked l ks) e
    all_poisoned_fork c x zero q (node_and k js) l ks e = poisoned_fork c x q k l ks e
    all_poisoned_fork c x (suc i) q (node_and k js) l ks e = all_poisoned_fork c x i q js l ks e

  -- the same of some children
  record StoodIn (ns : Nodes S) (j : ℕ) (q : List ℕ) (l : S) (x : ℕ) : Type 0 where
    pub children : Nodes S
    pub there : child_at j q ns ≡ Some (Forked l children)
    pub least : IsLeast x children

  -- there the label that could be caught is above that of the poison
  stood_poisoned : (c : Channel) (y : Death) (q : List ℕ) (n : Node S) (l : S) (ks : Nodes S) (x : ℕ) → at q (poisoned o c y n) ≡ Some (Forked l ks) → ((js : Nodes S) → at q n ≡ Some (Forked l js) → y.label < x) → IsLeast x ks → Stood n q l x
  stood_poisoned c y q n l ks x e higher least =
      let w = poisoned_fork c y q n l ks e in
      let h : y.label < x = higher w.children w.there in
      let some : any_dead_below (suc x) w.children ≡ true = elim (all_poisoned_dead c y (suc x) w.children (ap (any_dead_below (suc x)) w.is ∙ least.some)) [
        | inl z ↦ z
        | inr z ↦ clash (any_dead_below x ks) (ap (any_dead_below x) (sym w.is) ∙ z.every x h) least.none
      ] in
      let none : any_dead_below x w.children ≡ false =
      false_unless (any_dead_below x w.children) (λ z. clash (any_dead_below x ks) (ap (any_dead_below x) (sym w.is) ∙ all_dead_poisoned c y x w.children z) least.none) in
      record { children = w.children; there = w.there; least = record { some = some; none = none } }

  stood_one_poisoned : (c : Channel) (y : Death) (i j : ℕ) (q : List ℕ) (ns : Nodes S) (l : S) (ks : Nodes S) (x : ℕ) → child_at j q (one_poisoned o c y i ns) ≡ Some (Forked l ks)
      → ((js : Nodes S) → child_at j q ns ≡ Some (Forked l js) → y.label < x) → IsLeast x ks → StoodIn ns j q l x
  stood_one_poisoned c y i j q no_node l ks x e h least = none_some (Forked l ks) e
  stood_one_poisoned c y zero zero q (node_and k ns) l ks x e h least = let w = stood_poisoned c y q k l ks x e h least in record { children = w.children; there = w.there; least = w.least }
  stood_one_poisoned c y zero (suc j) q (node_and k ns) l ks x e h least = record { children = ks; there = e; least = least }
  stood_one_poisoned c y (suc i) zero q (node_and k ns) l ks x e h least = record { children = ks; there = e; least = least }
  stood_one_poisoned c y (suc i) (suc j) q (node_and k ns) l ks x e h least = let w = stood_one_poisoned c y i j q ns l ks x e h least in record { children = w.children; there = w.there; least = w.least }

  -- at the fork of the poison and below
  stood_here : LocalLaws o → (c : Channel) (i : ℕ) (q : List ℕ) (k : S) (ns : Nodes S) (l : S) (ks : Nodes S) (x : ℕ) → SoundBelow o (Forked k ns) → can_poison o k c i ns ≡ true
      → at q (Forked k (one_poisoned o c (death (o.handlers k - 1)) i ns)) ≡ Some (Forked l ks) → o.base l ≤ x → x < o.handlers l → IsLeast x ks → Stood (Forked k ns) q l x
  stood_here law c i [] k ns l ks x s can e low high least =
      let js = one_poisoned o c (death (o.handlers k - 1)) i ns in
      let w = same_fork k l js ks e in
      let some = no_less_than (o.handlers k) (o.base k) 1 (law.base_least k s.sound) (law.base_most k s.sound) in
      let within : suc x ≤ o.handlers k = subst (λ z. suc x ≤ o.handlers z) (sym w.0) (next_up_to x (o.handlers l) high) in
      let was : any_dead_below (suc x) ns ≡ true = here_dead c i (suc x) k ns can some within (ap (any_dead_below (suc x)) w.1 ∙ least.some) in
      let not_less : any_dead_below x ns ≡ false =
      false_unless (any_dead_below x ns) (λ z. clash (any_dead_below x ks) (ap (any_dead_below x) (sym w.1) ∙ one_dead_poisoned c (death (o.handlers k - 1)) x i ns z) least.none) in
      record { children = ns; there = ap (λ z. Some (Forked z ns)) w.0; least = record { some = was; none = not_less } }
  stood_here law c i (j ∷ q) k ns l ks x s can e low high least =
      let some = no_less_than (o.handlers k) (o.base k) 1 (law.base_least k s.sound) (law.base_most k s.sound) in
      let higher : (js : Nodes S) → child_at j q ns ≡ Some (Forked l js) → o.handlers k - 1 < x =
      λ js f. innermost_under (o.handlers k) (o.base l) x some (base_below o law k s.number 0 ns j q (Forked l js) s.children f) low in
      let w = stood_one_poisoned c (death (o.handlers k - 1)) i j q ns l ks x e higher least in
      record { children = w.children; there = w.there; least = w.least }

  -- at a fork above it
  stood_over : LocalLaws o → (c : Channel) (i b : ℕ) (q : List ℕ) (k : S) (ns js : Nodes S) (l : S) (ks : Nodes S) (x : ℕ) → SoundBelow o (Forked k ns) → poison_child o c i b q ns ≡ Some js
      → Some (Forked k js) ≡ Some (Forked l ks) → x < o.handlers l → IsLeast x ks → Stood (Forked k ns) [] l x
  stood_over law c i b q k ns js l ks x s p e high least =
      let w = same_fork k l js ks e in
      let within : suc x ≤ o.handlers k = subst (λ z. suc x ≤ o.handlers z) (sym w.0) (next_up_to x (o.handlers l) high) in
      let was : any_dead_below (suc x) ns ≡ true = poison_dead_in law c i (suc x) b q k s.number 0 ns js s.children within p (ap (any_dead_below (suc x)) w.1 ∙ least.some) in
      let not_less : any_dead_below x ns ≡ false =
      false_unless (any_dead_below x ns) (λ z. clash (any_dead_below x ks) (ap (any_dead_below x) (sym w.1) ∙ still_dead_in c i x b q ns js p z) least.none) in
      record { children = ns; there = ap (λ z. Some (Forked z ns)) w.0; least = record { some = was; none = not_less } }

  mutual
    stood_poison : LocalLaws o → (c : Channel) (i : ℕ) (p q : List ℕ) (n m : Node S) (l : S) (ks : Nodes S) (x : ℕ) → SoundBelow o n → poison o c i p n ≡ Some m → at q m ≡ Some (Forked l ks)
        → o.base l ≤ x → x < o.handlers l → IsLeast x ks → Stood n q l x
    stood_poison law c i [] q (Live k) m l ks x s h e low high least = none_some m h
    stood_poison law c i [] q (Ended k) m l ks x s h e low high least = none_some m h
    stood_poison law c i [] q (Dead k y) m l ks x s h e low high least = none_some m h
    stood_poison law c i [] q (Forked k ns) m l ks x s h e low high least =
        let w = cond_some (can_poison o k c i ns) (Forked k (one_poisoned o c (death (o.handlers k - 1)) i ns)) m h in
        stood_here law c i q k ns l ks x s w.0 (ap (at q) w.1 ∙ e) low high least
    stood_poison law c i (b ∷ p) q (Live k) m l ks x s h e low high least = none_some m h
    stood_poison law c i (b ∷ p) q (Ended k) m l ks x s h e low high least = none_some m h
    stood_poison law c i (b ∷ p) q (Dead k y) m l ks x s h e low high least = none_some m h
    stood_poison law c i (b ∷ p) [] (Forked k ns) m l ks x s h e low high least =
        let r = above_some k (poison_child o c i b p ns) m h in
        stood_over law c i b p k ns r.0 l ks x s r.1 (ap (at []) r.2 ∙ e) high least
    stood_poison law c i (b ∷ p) (j ∷ q) (Forked k ns) m l ks x s h e low high least =
        let r = above_some k (poison_child o c i b p ns) m h in
        let w = stood_poison_in law c i b p j q k s.number 0 ns r.0 l ks x s.children r.1 (ap (at (j ∷ q)) r.2 ∙ e) low high least in
        record { children = w.children; there = w.there; least = w.least }

    stood_poison_in : LocalLaws o → (c : Channel) (i b : ℕ) (p : List ℕ) (j : ℕ) (q : List ℕ) (k : S) (f g : ℕ) (ns js : Nodes S) (l : S) (ks : Nodes S) (x : ℕ) → SoundChildren o k f g ns → poison_child o c i b p ns ≡ Some js
        → child_at j q js ≡ Some (Forked l ks) → o.base l ≤ x → x < o.handlers l → IsLeast x ks → StoodIn ns j q l x
    stood_poison_in law c i b p j q k f g no_node js l ks x s h e low high least = none_some js h
    stood_poison_in law c i zero p zero q k f g (node_and n ns) js l ks x s h e low high least =
        let r = before_some ns (poison o c i p n) js h in
        let w = stood_poison law c i p q n r.0 l ks x s.1 r.1 (ap (child_at zero q) r.2 ∙ e) low high least in
        record { children = w.children; there = w.there; least = w.least }
    stood_poison_in law c i zero p (suc j) q k f g (node_and n ns) js l ks x s h e low high least =
        let r = before_some ns (poison o c i p n) js h in
        record { children = ks; there = ap (child_at (suc j) q) r.2 ∙ e; least = least }
    stood_poison_in law c i (suc b) p zero q k f g (node_and n ns) js l ks x s h e low high least =
        let r = after_some n (poison_child o c i b p ns) js h in
        record { children = ks; there = ap (child_at zero q) r.2 ∙ e; least = least }
    stood_poison_in law c i (suc b) p (suc j) q k f g (node_and n ns) js l ks x s h e low high least =
        let r = after_some n (poison_child o c i b p ns) js h in
        let w = stood_poison_in law c i b p j q k f (g + 1) ns r.0 l ks x s.2 r.1 (ap (child_at (suc j) q) r.2 ∙ e) low high least in
        record { children = w.children; there = w.there; least = w.least }

  pub stood_route : LocalLaws o → (c : Channel) (r : Option (List ℕ)) (q : List ℕ) (n m : Node S) (l : S) (ks : Nodes S) (x : ℕ) → SoundBelow o n → poison_route o c n r ≡ Some m → at q m ≡ Some (Forked l ks)
      → o.base l ≤ x → x < o.handlers l → IsLeast x ks → Stood n q l x
  stood_route law c None q n m l ks x s h e low high least = none_some m h
  stood_route law c (Some []) q n m l ks x s h e low high least = none_some m h
  stood_route law c (Some (i ∷ p)) q n m l ks x s h e low high least = stood_poison law c (last_branch i p) (to_fork i p) q n m l ks x s h e low high least
