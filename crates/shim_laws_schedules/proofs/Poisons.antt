-- What a poison leaves of a node: nothing changes for another channel, and it may change places with a rendezvous and with another poison.
use Rattle.std.proofs.Common.{◌≡◌, ℕ, zero, suc, ℤ, ◌+◌, true, false, Some, List, [], ◌∷◌, ◌&&◌, ◌||◌, inl, inr, not, cond, refl, sym, ap, subst, ◌∙◌, ltb}
use Rattle.shim_base.specs.Paths.{Channel}
use Rattle.shim_local.specs.Process.{Ops}
use Rattle.shim_local.specs.Laws.{LocalLaws}
use Rattle.shim_semantics.specs.Nodes.{Node, Nodes, Live, Forked, Ended, Dead, Death, no_node, node_and, any_sharer, is_next, received, all_received}
use Rattle.shim_semantics.specs.Poison.{poisoned, all_poisoned, dooms, any_dooms}
use Rattle.shim_semantics.specs.Places.{at, child_at, SoundBelow, SoundChildren}
use Rattle.shim_semantics.proofs.ReplacedNodes.{put, put_child}
use Rattle.shim_laws_schedules.specs.Waiting.{all_wait, all_wait_below, is_unshared, all_unshared}
use Rattle.shim_laws_schedules.proofs.AllWait.{Alike, AreAlike, alike_same, are_alike_same, alike_forked, alike_first}
use Rattle.shim_laws_schedules.proofs.Unshared.{no_name, stands_elsewhere, unheard}
use Rattle.shim_laws_schedules.proofs.Meets.{waits_unshared, still_shares}
use Rattle.shim_base.proofs.Facts.{some_same, none_some, first_holds, second_holds, either_holds, true_or_false, or_left, or_right, not_false, false_not, or_false, left_or}

module _ {S : Type 0} (o : Ops S) where
  -- who shares one channel doesn't share another, where he waits at both
  sharer_unshared : (c d : Channel) (l : S) → (d ≡ c → ⊥) → all_wait o c (Live l) ≡ true → all_wait o d (Live l) ≡ true → o.shares l c ≡ true → o.shares l d ≡ false
  sharer_unshared c d l n h g y = waits_unshared o d c l n g (left_or (o.shares l c) (is_next (o.stop l) c) y h)

  -- ---- another channel

  -- a death is nothing to a channel that the process doesn't share
  dead_alike : LocalLaws o → (d : Channel) (x : Death) (l : S) → o.sound l → o.shares l d ≡ false → Alike o d (Live l) (Dead l x)
  dead_alike law d x l s n = record {
    all_wait = or_left (not (o.shares l d)) (is_next (o.stop l) d) (false_not (o.shares l d) n) ∙ sym (false_not (o.shares l d) n);
    has_sharer = n;
    source = refl;
    name = no_name (o.stop l) d (stands_elsewhere o law d l s n);
    sharer = n;
  }

  live_alike : LocalLaws o → (c d : Channel) (x : Death) (l : S) → o.sound l → (d ≡ c → ⊥) → all_wait o c (Live l) ≡ true → all_wait o d (Live l) ≡ true → Alike o d (Live l) (poisoned o c x (Live l))
  live_alike law c d x l s n h g = elim (true_or_false (o.shares l c)) [
    | inr y ↦ subst (λ b. Alike o d (Live l) (cond b (Dead l x) (Live l))) (sym y) (alike_same o d (Live l))
    | inl y ↦ subst (λ b. Alike o d (Live l) (cond b (Dead l x) (Live l))) (sym y) (dead_alike law d x l s (sharer_unshared c d l n h g y))
  ]

  mutual
    -- a poison changes nothing for another channel, where all waits at both
    pub poisoned_alike : LocalLaws o → (c d : Channel) (x : Death) (n : Node S) → SoundBelow o n → (d ≡ c → ⊥) → all_wait o c n ≡ true → all_wait o d n ≡ true → Alike o d n (poisoned o c x n)
    poisoned_alike law c d x (Live l) s n h g = live_alike law c d x l s n h g
    poisoned_alike law c d x (Ended l) s n h g = alike_same o d (Ended l)
    poisoned_alike law c d x (Dead l y) s n h g = alike_same o d (Dead l y)
    poisoned_alike law c d x (Forked l ks) s n h g =
        alike_forked o d l ks (all_poisoned o c x ks) (all_poisoned_alike law c d x l s.number 0 ks s.children n
        (second_holds (not (o.shares l c) || any_sharer o c ks) (all_wait_below o c ks) h) (second_holds (not (o.shares l d) || any_sharer o d ks) (all_wait_below o d ks) g))

    all_poisoned_alike : LocalLaws o → (c d : Channel) (x : Death) (l : S) (f j : ℕ) (ks : Nodes S) → SoundChildren o l f j ks → (d ≡ c → ⊥) → all_wait_below o c ks ≡ true → all_wait_below o d ks ≡ true → AreAlike o d ks (all_poisoned o c x ks)
    all_poisoned_alike law c d x l f j no_node s n h g = are_alike_same o d no_node
    all_poisoned_alike law c d x l f j (node_and k ks) s n h g =
        alike_first o d k (poisoned o c x k) ks (all_poisoned o c x ks)
        (poisoned_alike law c d x k s.1 n (first_holds (all_wait o c k) (all_wait_below o c ks) h) (first_holds (all_wait o d k) (all_wait_below o d ks) g))
        (all_poisoned_alike law c d x l f (j + 1) ks s.2 n (second_holds (all_wait o c k) (all_wait_below o c ks) h) (second_holds (all_wait o d k) (all_wait_below o d ks) g))

  -- ---- a rendezvous on another channel

  -- of a process that isn't poisoned
  live_spared : LocalLaws o → (c d : Channel) (x : Death) (v : ℤ) (l : S) → o.sound l → o.shares l c ≡ false → received o d v (poisoned o c x (Live l)) ≡ poisoned o c x (received o d v (Live l))
  live_spared law c d x v l s y =
      elim (true_or_false (is_next (o.stop l) d)) [
        | inl z ↦
            let m : cond (is_next (o.stop l) d) (o.receive l v) l ≡ o.receive l v = ap (λ b. cond b (o.receive l v) l) z in
            let still : o.shares (o.receive l v) c ≡ false = still_shares o law c d v l s z ∙ y in
            ap (λ b. received o d v (cond b (Dead l x) (Live l))) y
            ∙ (ap Live m ∙ (sym (ap (λ b. cond b (Dead (o.receive l v) x) (Live (o.receive l v))) still) ∙ sym (ap (λ w. poisoned o c x (Live w)) m)))
        | inr z ↦
            let m : cond (is_next (o.stop l) d) (o.receive l v) l ≡ l = ap (λ b. cond b (o.receive l v) l) z in
            ap (λ b. received o d v (cond b (Dead l x) (Live l))) y ∙ (ap Live m ∙ (sym (ap (λ b. cond b (Dead l x) (Live l)) y) ∙ sym (ap (λ w. poisoned o c x (Live w)) m)))
      ]

  live_heard : LocalLaws o → (c d : Channel) (x : Death) (v : ℤ) (l : S) → o.sound l → (d ≡ c → ⊥) → all_wait o c (Live l) ≡ true → all_wait o d (Live l) ≡ true → received o d v (poisoned o c x (Live l)) ≡ poisoned o c x (received o d v (Live l))
  live_heard law c d x v l s n h g =
      elim (true_or_false (o.shares l c)) [
        | inl y ↦
            let z = unheard o law d v l s (sharer_unshared c d l n h g y) in
            ap (λ b. received o d v (cond b (Dead l x) (Live l))) y ∙ (sym (ap (λ b. cond b (Dead l x) (Live l)) y) ∙ sym (ap (λ m. poisoned o c x (Live m)) z))
        | inr y ↦ live_spared law c d x v l s y
      ]

  mutual
    pub poisoned_heard : LocalLaws o → (c d : Channel) (x : Death) (v : ℤ) (n : Node S) → SoundBelow o n → (d ≡ c → ⊥) → all_wait o c n ≡ true → all_wait o d n ≡ true → received o d v (poisoned o c x n) ≡ poisoned o c x (received o d v n)
    poisoned_heard law c d x v (Live l) s n h g = live_heard law c d x v l s n h g
    poisoned_heard law c d x v (Ended l) s n h g = refl
    poisoned_heard law c d x v (Dead l y) s n h g = refl
    poisoned_heard law c d x v (Forked l ks) s n h g = ap (Forked l) (all_poisoned_heard law c d x v l s.number 0 ks s.children n
        (second_holds (not (o.shares l c) || any_sharer o c ks) (all_wait_below o c ks) h) (second_holds (not (o.shares l d) || any_sharer o d ks) (all_wait_below o d ks) g))

    all_poisoned_heard : LocalLaws o → (c d : Channel) (x : Death) (v : ℤ) (l : S) (f j : ℕ) (ks : Nodes S) → SoundChildren o l f j ks → (d ≡ c → ⊥) → all_wait_below o c ks ≡ true → all_wait_below o d ks ≡ true
        → all_received o d v (all_poisoned o c x ks) ≡ all_poisoned o c x (all_received o d v ks)
    all_poisoned_heard law c d x v l f j no_node s n h g = refl
    all_poisoned_heard law c d x v l f j (node_and k ks) s n h g = λ i. node_and
        (poisoned_heard law c d x v k s.1 n (first_holds (all_wait o c k) (all_wait_below o c ks) h) (first_holds (all_wait o d k) (all_wait_below o d ks) g) i)
        (all_poisoned_heard law c d x v l f (j + 1) ks s.2 n (second_holds (all_wait o c k) (all_wait_below o c ks) h) (second_holds (all_wait o d k) (all_wait_below o d ks) g) i)

  -- ---- two poisons on two channels

  live_twice : (c d : Channel) (x y : Death) (l : S) → (d ≡ c → ⊥) → all_wait o c (Live l) ≡ true → all_wait o d (Live l) ≡ true → poisoned o d y (poisoned o c x (Live l)) ≡ poisoned o c x (poisoned o d y (Live l))
  live_twice c d x y l n h g =
      elim (true_or_false (o.shares l c)) [
        | inl z ↦
            let w = sharer_unshared c d l n h g z in
            ap (λ b. poisoned o d y (cond b (Dead l x) (Live l))) z ∙ (sym (ap (λ b. cond b (Dead l x) (Live l)) z) ∙ sym (ap (λ b. poisoned o c x (cond b (Dead l y) (Live l))) w))
        | inr z ↦
            ap (λ b. poisoned o d y (cond b (Dead l x) (Live l))) z
            ∙ elim (o.shares l d) as (λ b. cond b (Dead l y) (Live l) ≡ poisoned o c x (cond b (Dead l y) (Live l))) [ true ↦ refl | false ↦ sym (ap (λ b. cond b (Dead l x) (Live l)) z) ]
      ]

  mutual
    pub poisoned_twice : (c d : Channel) (x y : Death) (n : Node S) → (d ≡ c → ⊥) → all_wait o c n ≡ true → all_wait o d n ≡ true → poisoned o d y (poisoned o c x n) ≡ poisoned o c x (poisoned o d y n)
    poisoned_twice c d x y (Live l) n h g = live_twice c d x y l n h g
    poisoned_twice c d x y (Ended l) n h g = refl
    poisoned_twice c d x y (Dead l z) n h g = refl
    poisoned_twice c d x y (Forked l ks) n h g = ap (Forked l) (all_poisoned_twice c d x y ks n
        (second_holds (not (o.shares l c) || any_sharer o c ks) (all_wait_below o c ks) h) (second_holds (not (o.shares l d) || any_sharer o d ks) (all_wait_below o d ks) g))

    all_poisoned_twice : (c d : Channel) (x y : Death) (ks : Nodes S) → (d ≡ c → ⊥) → all_wait_below o c ks ≡ true → all_wait_below o d ks ≡ true → all_poisoned o d y (all_poisoned o c x ks) ≡ all_poisoned o c x (all_poisoned o d y ks)
    all_poisoned_twice c d x y no_node n h g = refl
    all_poisoned_twice c d x y (node_and k ks) n h g = λ i. node_and
        (poisoned_twice c d x y k n (first_holds (all_wait o c k) (all_wait_below o c ks) h) (first_holds (all_wait o d k) (all_wait_below o d ks) g) i)
        (all_poisoned_twice c d x y ks n (second_holds (all_wait o c k) (all_wait_below o c ks) h) (second_holds (all_wait o d k) (all_wait_below o d ks) g) i)

  -- ---- dooms

  mutual
    -- where all sharers of a channel wait, nobody dooms another on it
    pub all_wait_undoomed : (h : ℕ) (c : Channel) (n : Node S) → all_wait o c n ≡ true → dooms o h c n ≡ false
    all_wait_undoomed h c (Live l) e = refl
    all_wait_undoomed h c (Ended l) e = refl
    all_wait_undoomed h c (Dead l x) e = ap (λ b. b && ltb x.label h) (not_false (o.shares l c) e)
    all_wait_undoomed h c (Forked l ks) e = all_wait_below_undoomed h c ks (second_holds (not (o.shares l c) || any_sharer o c ks) (all_wait_below o c ks) e)

    pub all_wait_below_undoomed : (h : ℕ) (c : Channel) (ks : Nodes S) → all_wait_below o c ks ≡ true → any_dooms o h c ks ≡ false
    all_wait_below_undoomed h c no_node e = refl
    all_wait_below_undoomed h c (node_and k ks) e =
        or_false (dooms o h c k) (any_dooms o h c ks) (all_wait_undoomed h c k (first_holds (all_wait o c k) (all_wait_below o c ks) e)) (all_wait_below_undoomed h c ks (second_holds (all_wait o c k) (all_wait_below o c ks) e))

  mutual
    -- who dooms goes on where others are poisoned
    pub poisoned_dooms : (c d : Channel) (x : Death) (h : ℕ) (n : Node S) → dooms o h d n ≡ true → dooms o h d (poisoned o c x n) ≡ true
    poisoned_dooms c d x h (Live l) e = absurd cc
    poisoned_dooms c d x h (Ended l) e = e
    poisoned_dooms c d x h (Dead l y) e = e
    poisoned_dooms c d x h (Forked l ks) e = all_poisoned_dooms c d x h ks e

    pub all_poisoned_dooms : (c d : Channel) (x : Death) (h : ℕ) (ks : Nodes S) → any_dooms o h d ks ≡ true → any_dooms o h d (all_poisoned o c x ks) ≡ true
    all_poisoned_dooms c d x h no_node e = e
    all_poisoned_dooms c d x h (node_and k ks) e = elim (either_holds (dooms o h d k) (any_dooms o h d ks) e) [
      | inl y ↦ or_left (dooms o h d (poisoned o c x k)) (any_dooms o h d (all_poisoned o c x ks)) (poisoned_dooms c d x h k y)
      | inr y ↦ or_right (dooms o h d (poisoned o c x k)) (any_dooms o h d (all_poisoned o c x ks)) (all_poisoned_dooms c d x h ks y)
    ]

  -- ---- nodes that share nothing of a channel

  live_spares : (c : Channel) (x : Death) (l : S) → o.shares l c ≡ false → poisoned o c x (Live l) ≡ Live l
  live_spares c x l e = ap (λ b. cond b (Dead l x) (Live l)) e

  mutual
    pub is_unshared_poisoned : (c : Channel) (x : Death) (n : Node S) → is_unshared o c n ≡ true → poisoned o c x n ≡ n
    is_unshared_poisoned c x (Live l) h = live_spares c x l (not_false (o.shares l c) h)
    is_unshared_poisoned c x (Ended l) h = refl
    is_unshared_poisoned c x (Dead l y) h = refl
    is_unshared_poisoned c x (Forked l ks) h = ap (Forked l) (all_unshared_poisoned c x ks (second_holds (not (o.shares l c)) (all_unshared o c ks) h))

    all_unshared_poisoned : (c : Channel) (x : Death) (ks : Nodes S) → all_unshared o c ks ≡ true → all_poisoned o c x ks ≡ ks
    all_unshared_poisoned c x no_node h = refl
    all_unshared_poisoned c x (node_and k ks) h = λ i. node_and (is_unshared_poisoned c x k (first_holds (is_unshared o c k) (all_unshared o c ks) h) i) (all_unshared_poisoned c x ks (second_holds (is_unshared o c k) (all_unshared o c ks) h) i)

  -- ---- a node that is put in place of another

  live_put : (c : Channel) (x : Death) (i : ℕ) (q : List ℕ) (m : Node S) (l : S) → poisoned o c x (Live l) ≡ put (i ∷ q) m (poisoned o c x (Live l))
  live_put c x i q m l = elim (o.shares l c) as (λ b. cond b (Dead l x) (Live l) ≡ put (i ∷ q) m (cond b (Dead l x) (Live l))) [ true ↦ refl | false ↦ refl ]

  mutual
    pub poisoned_put : (c : Channel) (x : Death) (q : List ℕ) (m n : Node S) → poisoned o c x (put q m n) ≡ put q (poisoned o c x m) (poisoned o c x n)
    poisoned_put c x [] m n = refl
    poisoned_put c x (i ∷ q) m (Live l) = live_put c x i q (poisoned o c x m) l
    poisoned_put c x (i ∷ q) m (Ended l) = refl
    poisoned_put c x (i ∷ q) m (Dead l y) = refl
    poisoned_put c x (i ∷ q) m (Forked l ks) = ap (Forked l) (poisoned_put_in c x i q m ks)

    poisoned_put_in : (c : Channel) (x : Death) (i : ℕ) (q : List ℕ) (m : Node S) (ks : Nodes S) → all_poisoned o c x (put_child i q m ks) ≡ put_child i q (poisoned o c x m) (all_poisoned o c x ks)
    poisoned_put_in c x i q m no_node = refl
    poisoned_put_in c x zero q m (node_and k ks) = ap (λ z. node_and z (all_poisoned o c x ks)) (poisoned_put c x q m k)
    poisoned_put_in c x (suc i) q m (node_and k ks) = ap (node_and (poisoned o c x k)) (poisoned_put_in c x i q m ks)

  mutual
    pub poisoned_at : (c : Channel) (x : Death) (q : List ℕ) (n m : Node S) → at q n ≡ Some m → at q (poisoned o c x n) ≡ Some (poisoned o c x m)
    poisoned_at c x [] n m e = ap (λ z. Some (poisoned o c x z)) (some_same n m e)
    poisoned_at c x (i ∷ q) (Live l) m e = none_some m e
    poisoned_at c x (i ∷ q) (Ended l) m e = none_some m e
    poisoned_at c x (i ∷ q) (Dead l y) m e = none_some m e
    poisoned_at c x (i ∷ q) (Forked l ks) m e = poisoned_at_in c x i q ks m e

    poisoned_at_in : (c : Channel) (x : Death) (i : ℕ) (q : List ℕ) (ks : Nodes S) (m : Node S) → child_at i q ks ≡ Some m → child_at i q (all_poisoned o c x ks) ≡ Some (poisoned o c x m)
    poisoned_at_in c x i q no_node m e = none_some m e
    poisoned_at_in c x zero q (node_and k ks) m e = poisoned_at c x q k m e
    poisoned_at_in c x (suc i) q (node_and k ks) m e = poisoned_at_in c x i q ks m e
