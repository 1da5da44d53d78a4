-- Two poisons may change places.
use Rattle.std.proofs.Common.{◌≡◌, ℕ, zero, suc, ◌+◌, ◌-◌, true, Some, List, [], ◌∷◌, ◌||◌, inl, inr, not, refl, sym, ap, subst, ◌∙◌}
use Rattle.shim_base.specs.Paths.{Channel}
use Rattle.shim_local.specs.Process.{Ops}
use Rattle.shim_local.specs.Laws.{LocalLaws}
use Rattle.shim_semantics.specs.Nodes.{Node, Nodes, Live, Forked, Ended, Dead, Death, death, no_node, node_and, state, any_sharer}
use Rattle.shim_semantics.specs.Poison.{poisoned, all_poisoned, dooms, any_dooms, is_doomed, is_ready_child, one_poisoned, can_poison, above, before_rest, after_one, poison, poison_child}
use Rattle.shim_semantics.specs.Places.{SoundBelow, SoundChildren}
use Rattle.shim_laws_schedules.specs.Waiting.{all_wait, all_wait_below}
use Rattle.shim_laws_schedules.proofs.AllWait.{Alike, AreAlike, alike_same, are_alike_same, alike_forked, alike_first}
use Rattle.shim_laws_schedules.proofs.Homes.{NotBelow, ready_all_wait}
use Rattle.shim_laws_schedules.proofs.Poisons.{poisoned_alike, poisoned_twice, poisoned_dooms, all_poisoned_dooms}
use Rattle.shim_laws_schedules.proofs.Kills.{above_some, after_some, FromAbove, child_from_above, ready_alike, here_can, here_poisons}
use Rattle.shim_laws_schedules.proofs.PoisonMeets.{all_wait_unpoisoned, not_below_child}
use Rattle.shim_base.proofs.Facts.{none_some, first_holds, second_holds, either_holds, cond_some, or_left, or_right}
use Rattle.shim_semantics.proofs.PoisonStays.{before_some}

module _ {S : Type 0} (o : Ops S) where
  -- ---- who dooms goes on where a child is poisoned

  one_any_dooms : (c d : Channel) (x : Death) (h i : ℕ) (ks : Nodes S) → any_dooms o h d ks ≡ true → any_dooms o h d (one_poisoned o c x i ks) ≡ true
  one_any_dooms c d x h i no_node e = e
  one_any_dooms c d x h zero (node_and k ks) e = elim (either_holds (dooms o h d k) (any_dooms o h d ks) e) [
    | inl y ↦ or_left (dooms o h d (poisoned o c x k)) (any_dooms o h d ks) (poisoned_dooms o c d x h k y)
    | inr y ↦ or_right (dooms o h d (poisoned o c x k)) (any_dooms o h d ks) y
  ]
  one_any_dooms c d x h (suc i) (node_and k ks) e = elim (either_holds (dooms o h d k) (any_dooms o h d ks) e) [
    | inl y ↦ or_left (dooms o h d k) (any_dooms o h d (one_poisoned o c x i ks)) y
    | inr y ↦ or_right (dooms o h d k) (any_dooms o h d (one_poisoned o c x i ks)) (one_any_dooms c d x h i ks y)
  ]

  -- and so a child that is doomed stays so, where one is poisoned
  one_doomed : (c d : Channel) (x : Death) (h i e : ℕ) (ks : Nodes S) → is_doomed o h d e ks ≡ true → is_doomed o h d e (one_poisoned o c x i ks) ≡ true
  one_doomed c d x h i e no_node y = y
  one_doomed c d x h zero zero (node_and k ks) y = y
  one_doomed c d x h (suc i) zero (node_and k ks) y = one_any_dooms c d x h i ks y
  one_doomed c d x h zero (suc e) (node_and k ks) y = elim (either_holds (dooms o h d k) (is_doomed o h d e ks) y) [
    | inl z ↦ or_left (dooms o h d (poisoned o c x k)) (is_doomed o h d e ks) (poisoned_dooms o c d x h k z)
    | inr z ↦ or_right (dooms o h d (poisoned o c x k)) (is_doomed o h d e ks) z
  ]
  one_doomed c d x h (suc i) (suc e) (node_and k ks) y = elim (either_holds (dooms o h d k) (is_doomed o h d e ks) y) [
    | inl z ↦ or_left (dooms o h d k) (is_doomed o h d e (one_poisoned o c x i ks)) z
    | inr z ↦ or_right (dooms o h d k) (is_doomed o h d e (one_poisoned o c x i ks)) (one_doomed c d x h i e ks z)
  ]

  -- or all are
  all_doomed : (c d : Channel) (x : Death) (h i : ℕ) (ks : Nodes S) → is_doomed o h d i ks ≡ true → is_doomed o h d i (all_poisoned o c x ks) ≡ true
  all_doomed c d x h i no_node e = e
  all_doomed c d x h zero (node_and k ks) e = all_poisoned_dooms o c d x h ks e
  all_doomed c d x h (suc i) (node_and k ks) e = elim (either_holds (dooms o h d k) (is_doomed o h d i ks) e) [
    | inl y ↦ or_left (dooms o h d (poisoned o c x k)) (is_doomed o h d i (all_poisoned o c x ks)) (poisoned_dooms o c d x h k y)
    | inr y ↦ or_right (dooms o h d (poisoned o c x k)) (is_doomed o h d i (all_poisoned o c x ks)) (all_doomed c d x h i ks y)
  ]

  mutual
    -- or one somewhere below
    poison_dooms : (c d : Channel) (h e : ℕ) (q : List ℕ) (n m : Node S) → dooms o h c n ≡ true → poison o d e q n ≡ Some m → dooms o h c m ≡ true
    poison_dooms c d h e q (Live l) m y f = absurd cc
    poison_dooms c d h e q (Ended l) m y f = absurd cc
    poison_dooms c d h e [] (Dead l x) m y f = none_some m f
    poison_dooms c d h e (b ∷ q) (Dead l x) m y f = none_some m f
    poison_dooms c d h e [] (Forked l ks) m y f =
        let w = cond_some (can_poison o l d e ks) (Forked l (one_poisoned o d (death (o.handlers l - 1)) e ks)) m f in
        ap (dooms o h c) (sym w.1) ∙ one_any_dooms d c (death (o.handlers l - 1)) h e ks y
    poison_dooms c d h e (b ∷ q) (Forked l ks) m y f =
        let w = above_some l (poison_child o d e b q ks) m f in ap (dooms o h c) (sym w.2) ∙ poison_dooms_in c d h e b q ks w.0 y w.1

    poison_dooms_in : (c d : Channel) (h e b : ℕ) (q : List ℕ) (ks ms : Nodes S) → any_dooms o h c ks ≡ true → poison_child o d e b q ks ≡ Some ms → any_dooms o h c ms ≡ true
    poison_dooms_in c d h e b q no_node ms y f = none_some ms f
    poison_dooms_in c d h e zero q (node_and k ks) ms y f =
        let w = before_some ks (poison o d e q k) ms f in
        ap (any_dooms o h c) (sym w.2) ∙ elim (either_holds (dooms o h c k) (any_dooms o h c ks) y) [
          | inl z ↦ or_left (dooms o h c w.0) (any_dooms o h c ks) (poison_dooms c d h e q k w.0 z w.1)
          | inr z ↦ or_right (dooms o h c w.0) (any_dooms o h c ks) z
        ]
    poison_dooms_in c d h e (suc b) q (node_and k ks) ms y f =
        let w = after_some k (poison_child o d e b q ks) ms f in
        ap (any_dooms o h c) (sym w.2) ∙ elim (either_holds (dooms o h c k) (any_dooms o h c ks) y) [
          | inl z ↦ or_left (dooms o h c k) (any_dooms o h c w.0) z
          | inr z ↦ or_right (dooms o h c k) (any_dooms o h c w.0) (poison_dooms_in c d h e b q ks w.0 z w.1)
        ]

  poison_doomed : (c d : Channel) (h i e b : ℕ) (q : List ℕ) (ks ms : Nodes S) → is_doomed o h c i ks ≡ true → poison_child o d e b q ks ≡ Some ms → is_doomed o h c i ms ≡ true
  poison_doomed c d h i e b q no_node ms y g = none_some ms g
  poison_doomed c d h zero e zero q (node_and k ks) ms y g = let w = before_some ks (poison o d e q k) ms g in ap (is_doomed o h c zero) (sym w.2) ∙ y
  poison_doomed c d h zero e (suc b) q (node_and k ks) ms y g = let w = after_some k (poison_child o d e b q ks) ms g in ap (is_doomed o h c zero) (sym w.2) ∙ poison_dooms_in c d h e b q ks w.0 y w.1
  poison_doomed c d h (suc i) e zero q (node_and k ks) ms y g =
      let w = before_some ks (poison o d e q k) ms g in
      ap (is_doomed o h c (suc i)) (sym w.2) ∙ elim (either_holds (dooms o h c k) (is_doomed o h c i ks) y) [
        | inl z ↦ or_left (dooms o h c w.0) (is_doomed o h c i ks) (poison_dooms c d h e q k w.0 z w.1)
        | inr z ↦ or_right (dooms o h c w.0) (is_doomed o h c i ks) z
      ]
  poison_doomed c d h (suc i) e (suc b) q (node_and k ks) ms y g =
      let w = after_some k (poison_child o d e b q ks) ms g in
      ap (is_doomed o h c (suc i)) (sym w.2) ∙ elim (either_holds (dooms o h c k) (is_doomed o h c i ks) y) [
        | inl z ↦ or_left (dooms o h c k) (is_doomed o h c i w.0) z
        | inr z ↦ or_right (dooms o h c k) (is_doomed o h c i w.0) (poison_doomed c d h i e b q ks w.0 z w.1)
      ]

  -- ---- two at one fork: of two children, or of one on two channels

  -- the second child is ready still, and the order of both is nothing
  record BothHere (c d : Channel) (x y : Death) (i e : ℕ) (ks : Nodes S) : Type 0 where
    is_ready : is_ready_child o d e (one_poisoned o c x i ks) ≡ true
    swap : one_poisoned o d y e (one_poisoned o c x i ks) ≡ one_poisoned o c x i (one_poisoned o d y e ks)

  both_here : LocalLaws o → (c d : Channel) (x y : Death) (l : S) (f j i e : ℕ) (ks : Nodes S) → SoundChildren o l f j ks → NotBelow c (o.path l) → NotBelow d (o.path l) → (c ≡ d → i ≡ e → ⊥) → is_ready_child o c i ks ≡ true → is_ready_child o d e ks ≡ true → BothHere c d x y i e ks
  both_here law c d x y l f j i e no_node s n m a r q = absurd cc
  both_here law c d x y l f j zero zero (node_and k ks) s n m a r q =
      let other : d ≡ c → ⊥ = λ z. a (sym z) refl in
      let below_c = not_below_child o l (state k) f j c s.0 n in
      let below_d = not_below_child o l (state k) f j d s.0 m in
      let h = ready_all_wait o c k s.1 below_c r in
      let g = ready_all_wait o d k s.1 below_d q in
      record { is_ready = ready_alike o law d k (poisoned o c x k) s.1 below_d q (poisoned_alike o law c d x k s.1 other h g); swap = ap (λ z. node_and z ks) (poisoned_twice o c d x y k other h g) }
  both_here law c d x y l f j zero (suc e) (node_and k ks) s n m a r q = record { is_ready = q; swap = refl }
  both_here law c d x y l f j (suc i) zero (node_and k ks) s n m a r q = record { is_ready = q; swap = refl }
  both_here law c d x y l f j (suc i) (suc e) (node_and k ks) s n m a r q =
      let w = both_here law c d x y l f (j + 1) i e ks s.2 n m (λ z t. a z (ap suc t)) r q in
      record { is_ready = w.is_ready; swap = ap (node_and k) w.swap }

  -- ---- one below the other

  -- a poison on d below is nothing to another channel, and is the same after one on c above
  record Struck (c d : Channel) (x : Death) (e : ℕ) (q : List ℕ) (n m : Node S) : Type 0 where
    alike : Alike o c n m
    poisons : poison o d e q (poisoned o c x n) ≡ Some (poisoned o c x m)

  -- the same among the children of a fork
  record StruckIn (c d : Channel) (x : Death) (e b : ℕ) (q : List ℕ) (ks ms : Nodes S) : Type 0 where
    alike : AreAlike o c ks ms
    poisons : poison_child o d e b q (all_poisoned o c x ks) ≡ Some (all_poisoned o c x ms)

  -- at the fork: the child is ready still, and the order of both is nothing
  record StruckHere (c d : Channel) (x y : Death) (e : ℕ) (ks : Nodes S) : Type 0 where
    is_ready : is_ready_child o d e (all_poisoned o c x ks) ≡ true
    swap : one_poisoned o d y e (all_poisoned o c x ks) ≡ all_poisoned o c x (one_poisoned o d y e ks)
    alike : AreAlike o c ks (one_poisoned o d y e ks)

  struck_here : LocalLaws o → (c d : Channel) (x y : Death) (l : S) (f j e : ℕ) (ks : Nodes S) → SoundChildren o l f j ks → NotBelow d (o.path l) → (c ≡ d → ⊥) → all_wait_below o c ks ≡ true → is_ready_child o d e ks ≡ true → StruckHere c d x y e ks
  struck_here law c d x y l f j e no_node s n a g r = absurd cc
  struck_here law c d x y l f j zero (node_and k ks) s n a g r =
      let other : d ≡ c → ⊥ = λ z. a (sym z) in
      let below = not_below_child o l (state k) f j d s.0 n in
      let gd = ready_all_wait o d k s.1 below r in
      let gc = first_holds (all_wait o c k) (all_wait_below o c ks) g in
      record {
        is_ready = ready_alike o law d k (poisoned o c x k) s.1 below r (poisoned_alike o law c d x k s.1 other gc gd);
        swap = ap (λ z. node_and z (all_poisoned o c x ks)) (poisoned_twice o c d x y k other gc gd);
        alike = alike_first o c k (poisoned o d y k) ks ks (poisoned_alike o law d c y k s.1 a gd gc) (are_alike_same o c ks);
      }
  struck_here law c d x y l f j (suc e) (node_and k ks) s n a g r =
      let w = struck_here law c d x y l f (j + 1) e ks s.2 n a (second_holds (all_wait o c k) (all_wait_below o c ks) g) r in
      record { is_ready = w.is_ready; swap = ap (node_and (poisoned o c x k)) w.swap; alike = alike_first o c k k ks (one_poisoned o d y e ks) (alike_same o c k) w.alike }

  mutual
    struck : LocalLaws o → (c d : Channel) (x : Death) (e : ℕ) (q : List ℕ) (n m : Node S) → SoundBelow o n → FromAbove o d (state n) → (c ≡ d → ⊥) → all_wait o c n ≡ true → poison o d e q n ≡ Some m → Struck c d x e q n m
    struck law c d x e [] (Live l) m s from a g f = none_some m f
    struck law c d x e [] (Ended l) m s from a g f = none_some m f
    struck law c d x e [] (Dead l y) m s from a g f = none_some m f
    struck law c d x e (b ∷ q) (Live l) m s from a g f = none_some m f
    struck law c d x e (b ∷ q) (Ended l) m s from a g f = none_some m f
    struck law c d x e (b ∷ q) (Dead l y) m s from a g f = none_some m f
    struck law c d x e [] (Forked l ks) m s from a g f =
        let w = here_can o law d e l ks m s from f in
        let k = struck_here law c d x (death (o.handlers l - 1)) l s.number 0 e ks s.children w.none_below a (second_holds (not (o.shares l c) || any_sharer o c ks) (all_wait_below o c ks) g) w.waits in
        let there = here_poisons o d e l (all_poisoned o c x ks) k.is_ready (all_doomed c d x (o.handlers l) e ks w.doomed) in
        subst (Struck c d x e [] (Forked l ks)) w.is
        (record { alike = alike_forked o c l ks (one_poisoned o d (death (o.handlers l - 1)) e ks) k.alike; poisons = there ∙ ap (λ z. Some (Forked l z)) k.swap })
    struck law c d x e (b ∷ q) (Forked l ks) m s from a g f =
        let w = above_some l (poison_child o d e b q ks) m f in
        let k = struck_in law c d x e l s.number 0 b q ks w.0 s.children from a (second_holds (not (o.shares l c) || any_sharer o c ks) (all_wait_below o c ks) g) w.1 in
        subst (Struck c d x e (b ∷ q) (Forked l ks)) w.2 (record { alike = alike_forked o c l ks w.0 k.alike; poisons = ap (above l) k.poisons })

    struck_in : LocalLaws o → (c d : Channel) (x : Death) (e : ℕ) (l : S) (g j b : ℕ) (q : List ℕ) (ks ms : Nodes S) → SoundChildren o l g j ks → FromAbove o d l → (c ≡ d → ⊥) → all_wait_below o c ks ≡ true → poison_child o d e b q ks ≡ Some ms → StruckIn c d x e b q ks ms
    struck_in law c d x e l g j b q no_node ms s from a h f = none_some ms f
    struck_in law c d x e l g j zero q (node_and k ks) ms s from a h f =
        let w = before_some ks (poison o d e q k) ms f in
        let y = struck law c d x e q k w.0 s.1 (child_from_above o l (state k) g j d s.0 from) a (first_holds (all_wait o c k) (all_wait_below o c ks) h) w.1 in
        subst (StruckIn c d x e zero q (node_and k ks)) w.2 (record { alike = alike_first o c k w.0 ks ks y.alike (are_alike_same o c ks); poisons = ap (before_rest (all_poisoned o c x ks)) y.poisons })
    struck_in law c d x e l g j (suc b) q (node_and k ks) ms s from a h f =
        let w = after_some k (poison_child o d e b q ks) ms f in
        let y = struck_in law c d x e l g (j + 1) b q ks w.0 s.2 from a (second_holds (all_wait o c k) (all_wait_below o c ks) h) w.1 in
        subst (StruckIn c d x e (suc b) q (node_and k ks)) w.2 (record { alike = alike_first o c k k ks w.0 (alike_same o c k) y.alike; poisons = ap (after_one (poisoned o c x k)) y.poisons })

  -- the child above is ready still, and the poison below is the same after the one above
  record Upper (c d : Channel) (x : Death) (i e b : ℕ) (q : List ℕ) (ks ms : Nodes S) : Type 0 where
    is_ready : is_ready_child o c i ms ≡ true
    poisons : poison_child o d e b q (one_poisoned o c x i ks) ≡ Some (one_poisoned o c x i ms)

  -- one of a child, and one inside that child or another
  upper : LocalLaws o → (c d : Channel) (x : Death) (l : S) (f j i e b : ℕ) (q : List ℕ) (ks ms : Nodes S) → SoundChildren o l f j ks → NotBelow c (o.path l) → FromAbove o d l → is_ready_child o c i ks ≡ true → poison_child o d e b q ks ≡ Some ms → Upper c d x i e b q ks ms
  upper law c d x l f j i e b q no_node ms s n from r g = none_some ms g
  upper law c d x l f j zero e zero q (node_and k ks) ms s n from r g =
      let w = before_some ks (poison o d e q k) ms g in
      let below = not_below_child o l (state k) f j c s.0 n in
      let all = ready_all_wait o c k s.1 below r in
      let a : c ≡ d → ⊥ = λ z. all_wait_unpoisoned o c e q k w.0 all (ap (λ t. poison o t e q k) z ∙ w.1) in
      let y = struck law c d x e q k w.0 s.1 (child_from_above o l (state k) f j d s.0 from) a all w.1 in
      subst (Upper c d x zero e zero q (node_and k ks)) w.2 (record { is_ready = ready_alike o law c k w.0 s.1 below r y.alike; poisons = ap (before_rest ks) y.poisons })
  upper law c d x l f j zero e (suc b) q (node_and k ks) ms s n from r g =
      let w = after_some k (poison_child o d e b q ks) ms g in
      subst (Upper c d x zero e (suc b) q (node_and k ks)) w.2 (record { is_ready = r; poisons = ap (after_one (poisoned o c x k)) w.1 })
  upper law c d x l f j (suc i) e zero q (node_and k ks) ms s n from r g =
      let w = before_some ks (poison o d e q k) ms g in
      subst (Upper c d x (suc i) e zero q (node_and k ks)) w.2 (record { is_ready = r; poisons = ap (before_rest (one_poisoned o c x i ks)) w.1 })
  upper law c d x l f j (suc i) e (suc b) q (node_and k ks) ms s n from r g =
      let w = after_some k (poison_child o d e b q ks) ms g in
      let y = upper law c d x l f (j + 1) i e b q ks w.0 s.2 n from r w.1 in
      subst (Upper c d x (suc i) e (suc b) q (node_and k ks)) w.2 (record { is_ready = y.is_ready; poisons = ap (after_one k) y.poisons })

  -- ---- any two

  -- what both lead to, in either order
  pub record Twice (c : Channel) (i : ℕ) (p : List ℕ) (d : Channel) (e : ℕ) (q : List ℕ) (m k : Node S) : Type 0 where
    pub node : Node S
    pub first : poison o d e q m ≡ Some node
    pub second : poison o c i p k ≡ Some node

  -- the same among the children of a fork
  record TwiceIn (c : Channel) (i a : ℕ) (p : List ℕ) (d : Channel) (e b : ℕ) (q : List ℕ) (ms ks : Nodes S) : Type 0 where
    nodes : Nodes S
    first : poison_child o d e b q ms ≡ Some nodes
    second : poison_child o c i a p ks ≡ Some nodes

  one_above : LocalLaws o → (c d : Channel) (i e b : ℕ) (q : List ℕ) (l : S) (ks : Nodes S) (m k : Node S) → SoundBelow o (Forked l ks) → FromAbove o c l → FromAbove o d l → poison o c i [] (Forked l ks) ≡ Some m → poison o d e (b ∷ q) (Forked l ks) ≡ Some k → Twice c i [] d e (b ∷ q) m k
  one_above law c d i e b q l ks m k s fc fd f g =
      let w = here_can o law c i l ks m s fc f in
      let y = above_some l (poison_child o d e b q ks) k g in
      let u = upper law c d (death (o.handlers l - 1)) l s.number 0 i e b q ks y.0 s.children w.none_below fd w.waits y.1 in
      let t : Twice c i [] d e (b ∷ q) (Forked l (one_poisoned o c (death (o.handlers l - 1)) i ks)) (Forked l y.0) =
      record { node = Forked l (one_poisoned o c (death (o.handlers l - 1)) i y.0); first = ap (above l) u.poisons; second = here_poisons o c i l y.0 u.is_ready (poison_doomed c d (o.handlers l) i e b q ks y.0 w.doomed y.1) } in
      subst (Twice c i [] d e (b ∷ q) m) y.2 (subst (λ z. Twice c i [] d e (b ∷ q) z (Forked l y.0)) w.is t)

  mutual
    pub poison_poison : LocalLaws o → (c : Channel) (i : ℕ) (p : List ℕ) (d : Channel) (e : ℕ) (q : List ℕ) (n m k : Node S) → SoundBelow o n → FromAbove o c (state n) → FromAbove o d (state n) → (c ≡ d → i ≡ e → p ≡ q → ⊥) → poison o c i p n ≡ Some m → poison o d e q n ≡ Some k → Twice c i p d e q m k
    poison_poison law c i p d e [] (Live l) m k s fc fd a f g = none_some k g
    poison_poison law c i p d e [] (Ended l) m k s fc fd a f g = none_some k g
    poison_poison law c i p d e [] (Dead l x) m k s fc fd a f g = none_some k g
    poison_poison law c i p d e (b ∷ q) (Live l) m k s fc fd a f g = none_some k g
    poison_poison law c i p d e (b ∷ q) (Ended l) m k s fc fd a f g = none_some k g
    poison_poison law c i p d e (b ∷ q) (Dead l x) m k s fc fd a f g = none_some k g
    poison_poison law c i [] d e [] (Forked l ks) m k s fc fd a f g =
        let w = here_can o law c i l ks m s fc f in
        let y = here_can o law d e l ks k s fd g in
        let u = both_here law c d (death (o.handlers l - 1)) (death (o.handlers l - 1)) l s.number 0 i e ks s.children w.none_below y.none_below (λ z t. a z t refl) w.waits y.waits in
        let v = both_here law d c (death (o.handlers l - 1)) (death (o.handlers l - 1)) l s.number 0 e i ks s.children y.none_below w.none_below (λ z t. a (sym z) (sym t) refl) y.waits w.waits in
        let t : Twice c i [] d e [] (Forked l (one_poisoned o c (death (o.handlers l - 1)) i ks)) (Forked l (one_poisoned o d (death (o.handlers l - 1)) e ks)) =
        record {
          node = Forked l (one_poisoned o d (death (o.handlers l - 1)) e (one_poisoned o c (death (o.handlers l - 1)) i ks));
          first = here_poisons o d e l (one_poisoned o c (death (o.handlers l - 1)) i ks) u.is_ready (one_doomed c d (death (o.handlers l - 1)) (o.handlers l) i e ks y.doomed);
          second = here_poisons o c i l (one_poisoned o d (death (o.handlers l - 1)) e ks) v.is_ready (one_doomed d c (death (o.handlers l - 1)) (o.handlers l) e i ks w.doomed) ∙ ap (λ z. Some (Forked l z)) (sym u.swap);
        } in
        subst (Twice c i [] d e [] m) y.is (subst (λ z. Twice c i [] d e [] z (Forked l (one_poisoned o d (death (o.handlers l - 1)) e ks))) w.is t)
    poison_poison law c i [] d e (b ∷ q) (Forked l ks) m k s fc fd a f g = one_above law c d i e b q l ks m k s fc fd f g
    poison_poison law c i (b ∷ p) d e [] (Forked l ks) m k s fc fd a f g =
        let w = one_above law d c e i b p l ks k m s fd fc g f in record { node = w.node; first = w.second; second = w.first }
    poison_poison law c i (b ∷ p) d e (h ∷ q) (Forked l ks) m k s fc fd a f g =
        let w = above_some l (poison_child o c i b p ks) m f in
        let y = above_some l (poison_child o d e h q ks) k g in
        let u = poison_poison_in law c i d e l s.number 0 b p h q ks w.0 y.0 s.children fc fd (λ z t r v. a z t (λ i. r i ∷ v i)) w.1 y.1 in
        let t : Twice c i (b ∷ p) d e (h ∷ q) (Forked l w.0) (Forked l y.0) = record { node = Forked l u.nodes; first = ap (above l) u.first; second = ap (above l) u.second } in
        subst (Twice c i (b ∷ p) d e (h ∷ q) m) y.2 (subst (λ z. Twice c i (b ∷ p) d e (h ∷ q) z (Forked l y.0)) w.2 t)

    poison_poison_in : LocalLaws o → (c : Channel) (i : ℕ) (d : Channel) (e : ℕ) (l : S) (f j b : ℕ) (p : List ℕ) (h : ℕ) (q : List ℕ) (ns ms ks : Nodes S) → SoundChildren o l f j ns → FromAbove o c l → FromAbove o d l → (c ≡ d → i ≡ e → b ≡ h → p ≡ q → ⊥) → poison_child o c i b p ns ≡ Some ms → poison_child o d e h q ns ≡ Some ks
        → TwiceIn c i b p d e h q ms ks
    poison_poison_in law c i d e l f j b p h q no_node ms ks s fc fd a g k = none_some ms g
    poison_poison_in law c i d e l f j zero p zero q (node_and n ns) ms ks s fc fd a g k =
        let w = before_some ns (poison o c i p n) ms g in
        let y = before_some ns (poison o d e q n) ks k in
        let u = poison_poison law c i p d e q n w.0 y.0 s.1 (child_from_above o l (state n) f j c s.0 fc) (child_from_above o l (state n) f j d s.0 fd) (λ z t r. a z t refl r) w.1 y.1 in
        let t : TwiceIn c i zero p d e zero q (node_and w.0 ns) (node_and y.0 ns) = record { nodes = node_and u.node ns; first = ap (before_rest ns) u.first; second = ap (before_rest ns) u.second } in
        subst (TwiceIn c i zero p d e zero q ms) y.2 (subst (λ z. TwiceIn c i zero p d e zero q z (node_and y.0 ns)) w.2 t)
    poison_poison_in law c i d e l f j zero p (suc h) q (node_and n ns) ms ks s fc fd a g k =
        let w = before_some ns (poison o c i p n) ms g in
        let y = after_some n (poison_child o d e h q ns) ks k in
        let t : TwiceIn c i zero p d e (suc h) q (node_and w.0 ns) (node_and n y.0) = record { nodes = node_and w.0 y.0; first = ap (after_one w.0) y.1; second = ap (before_rest y.0) w.1 } in
        subst (TwiceIn c i zero p d e (suc h) q ms) y.2 (subst (λ z. TwiceIn c i zero p d e (suc h) q z (node_and n y.0)) w.2 t)
    poison_poison_in law c i d e l f j (suc b) p zero q (node_and n ns) ms ks s fc fd a g k =
        let w = after_some n (poison_child o c i b p ns) ms g in
        let y = before_some ns (poison o d e q n) ks k in
        let t : TwiceIn c i (suc b) p d e zero q (node_and n w.0) (node_and y.0 ns) = record { nodes = node_and y.0 w.0; first = ap (before_rest w.0) y.1; second = ap (after_one y.0) w.1 } in
        subst (TwiceIn c i (suc b) p d e zero q ms) y.2 (subst (λ z. TwiceIn c i (suc b) p d e zero q z (node_and y.0 ns)) w.2 t)
    poison_poison_in law c i d e l f j (suc b) p (suc h) q (node_and n ns) ms ks s fc fd a g k =
        let w = after_some n (poison_child o c i b p ns) ms g in
        let y = after_some n (poison_child o d e h q ns) ks k in
        let u = poison_poison_in law c i d e l f (j + 1) b p h q ns w.0 y.0 s.2 fc fd (λ z t r v. a z t (ap suc r) v) w.1 y.1 in
        let t : TwiceIn c i (suc b) p d e (suc h) q (node_and n w.0) (node_and n y.0) = record { nodes = node_and n u.nodes; first = ap (after_one n) u.first; second = ap (after_one n) u.second } in
        subst (TwiceIn c i (suc b) p d e (suc h) q ms) y.2 (subst (λ z. TwiceIn c i (suc b) p d e (suc h) q z (node_and n y.0)) w.2 t)
