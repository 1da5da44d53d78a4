-- A rendezvous among other events: it changes nothing for another channel on which all who share it wait, and two rendezvous, or a rendezvous and an act elsewhere, may change places.
use Rattle.std.proofs.Common.{◌≡◌, ℕ, zero, suc, ℤ, ◌+◌, true, false, Some, List, [], ◌∷◌, ◌||◌, inl, inr, not, cond, refl, sym, ap, subst, ◌∙◌}
use Rattle.shim_base.specs.Paths.{Channel, NamedChannel}
use Rattle.shim_local.specs.Process.{Ops, StopView, AtNext}
use Rattle.shim_local.specs.Laws.{LocalLaws, Called, by_receive, by_call}
use Rattle.shim_semantics.specs.Nodes.{Node, Nodes, Live, Forked, Ended, Dead, no_node, node_and, any_sharer, is_next, received, all_received}
use Rattle.shim_semantics.specs.Places.{at, child_at, SoundBelow, SoundChildren}
use Rattle.shim_semantics.proofs.ReplacedNodes.{put, put_child}
use Rattle.shim_semantics.proofs.Replaced.{sound_at}
use Rattle.shim_laws_schedules.specs.Waiting.{all_wait, all_wait_below, is_unshared}
use Rattle.shim_laws_schedules.proofs.AllWait.{Alike, AreAlike, alike_same, are_alike_same, alike_forked, alike_first}
use Rattle.shim_laws_schedules.proofs.Unshared.{stands_at, is_unshared_alike, unheard, is_unshared_received}
use Rattle.shim_base.proofs.Facts.{some_same, none_some, first_holds, second_holds, either_holds, true_or_false, not_false, false_not}

same_next : (a b : NamedChannel) → AtNext a ≡ AtNext b → a ≡ b
same_next a b e = cc

-- a process stands at one channel
stands_once : (s : StopView) (c d : Channel) → is_next s c ≡ true → is_next s d ≡ true → c ≡ d
stands_once s c d y w =
    let a = stands_at s c y in
    let b = stands_at s d w in
    sym a.2 ∙ (ap (λ (z : NamedChannel). z.channel) (same_next a.0 b.0 (sym a.1 ∙ b.1)) ∙ b.2)

module _ {S : Type 0} (o : Ops S) where
  -- ---- a rendezvous and a node that is put in place of another

  mutual
    received_put : (c : Channel) (v : ℤ) (q : List ℕ) (m n : Node S) → received o c v (put q m n) ≡ put q (received o c v m) (received o c v n)
    received_put c v [] m n = refl
    received_put c v (i ∷ q) m (Live l) = refl
    received_put c v (i ∷ q) m (Ended l) = refl
    received_put c v (i ∷ q) m (Dead l x) = refl
    received_put c v (i ∷ q) m (Forked l ks) = ap (Forked l) (received_put_in c v i q m ks)

    received_put_in : (c : Channel) (v : ℤ) (i : ℕ) (q : List ℕ) (m : Node S) (ks : Nodes S) → all_received o c v (put_child i q m ks) ≡ put_child i q (received o c v m) (all_received o c v ks)
    received_put_in c v i q m no_node = refl
    received_put_in c v zero q m (node_and k ks) = ap (λ z. node_and z (all_received o c v ks)) (received_put c v q m k)
    received_put_in c v (suc i) q m (node_and k ks) = ap (node_and (received o c v k)) (received_put_in c v i q m ks)

  mutual
    pub received_at : (c : Channel) (v : ℤ) (q : List ℕ) (n m : Node S) → at q n ≡ Some m → at q (received o c v n) ≡ Some (received o c v m)
    received_at c v [] n m e = ap (λ z. Some (received o c v z)) (some_same n m e)
    received_at c v (i ∷ q) (Live l) m e = none_some m e
    received_at c v (i ∷ q) (Ended l) m e = none_some m e
    received_at c v (i ∷ q) (Dead l x) m e = none_some m e
    received_at c v (i ∷ q) (Forked l ks) m e = received_at_in c v i q ks m e

    received_at_in : (c : Channel) (v : ℤ) (i : ℕ) (q : List ℕ) (ks : Nodes S) (m : Node S) → child_at i q ks ≡ Some m → child_at i q (all_received o c v ks) ≡ Some (received o c v m)
    received_at_in c v i q no_node m e = none_some m e
    received_at_in c v zero q (node_and k ks) m e = received_at c v q k m e
    received_at_in c v (suc i) q (node_and k ks) m e = received_at_in c v i q ks m e

  -- a process that doesn't stand at the channel stays as it was where the others meet
  -- and so does a node that is unshared on it
  pub is_unshared_there : LocalLaws o → (c : Channel) (v : ℤ) (q : List ℕ) (n m : Node S) → SoundBelow o n → at q n ≡ Some m → is_unshared o c m ≡ true → at q (received o c v n) ≡ Some m
  is_unshared_there law c v q n m s e h = received_at c v q n m e ∙ ap Some (is_unshared_received o law c v m (sound_at o q n m s e) h)

  -- so it may be put before the rendezvous or after it
  pub is_unshared_put : LocalLaws o → (c : Channel) (v : ℤ) (q : List ℕ) (a n : Node S) → SoundBelow o a → is_unshared o c a ≡ true → put q a (received o c v n) ≡ received o c v (put q a n)
  is_unshared_put law c v q a n s h = sym (received_put c v q a n ∙ ap (λ z. put q z (received o c v n)) (is_unshared_received o law c v a s h))

  -- ---- two rendezvous

  -- a process that receives does a call, and shares what it did
  hears : (c : Channel) (v : ℤ) (l : S) → is_next (o.stop l) c ≡ true → Called o l (o.receive l v)
  hears c v l y = let d = stands_at (o.stop l) c y in by_receive d.0 v d.1 refl

  pub still_shares : LocalLaws o → (c d : Channel) (v : ℤ) (l : S) → o.sound l → is_next (o.stop l) d ≡ true → o.shares (o.receive l v) c ≡ o.shares l c
  still_shares law c d v l s y = law.call_shares l (o.receive l v) c s (hears d v l y)

  hears_sound : LocalLaws o → (d : Channel) (v : ℤ) (l : S) → o.sound l → is_next (o.stop l) d ≡ true → o.sound (o.receive l v)
  hears_sound law d v l s y = law.moved_sound l (o.receive l v) s (by_call (hears d v l y))

  -- who stands at one channel doesn't share another at which it waits
  pub waits_unshared : (c d : Channel) (l : S) → (c ≡ d → ⊥) → all_wait o c (Live l) ≡ true → is_next (o.stop l) d ≡ true → o.shares l c ≡ false
  waits_unshared c d l n h w = elim (either_holds (not (o.shares l c)) (is_next (o.stop l) c) h) [
    | inl y ↦ not_false (o.shares l c) y
    | inr y ↦ absurd (n (stands_once (o.stop l) c d y w))
  ]

  live_alike : LocalLaws o → (c d : Channel) (v : ℤ) (l : S) → o.sound l → (c ≡ d → ⊥) → all_wait o c (Live l) ≡ true → Alike o c (Live l) (received o d v (Live l))
  live_alike law c d v l s n h =
      elim (true_or_false (is_next (o.stop l) d)) [
        | inr y ↦ subst (λ b. Alike o c (Live l) (Live (cond b (o.receive l v) l))) (sym y) (alike_same o c (Live l))
        | inl y ↦
            let none_of = waits_unshared c d l n h y in
            let no_more : o.shares (o.receive l v) c ≡ false = still_shares law c d v l s y ∙ none_of in
            subst (λ b. Alike o c (Live l) (Live (cond b (o.receive l v) l))) (sym y)
            (is_unshared_alike o law c (Live l) (Live (o.receive l v)) s (hears_sound law d v l s y) (false_not (o.shares l c) none_of) (false_not (o.shares (o.receive l v) c) no_more))
      ]

  mutual
    -- a rendezvous leaves all as it was to another channel at which all sharers wait
    pub received_alike : LocalLaws o → (c d : Channel) (v : ℤ) (n : Node S) → SoundBelow o n → (c ≡ d → ⊥) → all_wait o c n ≡ true → Alike o c n (received o d v n)
    received_alike law c d v (Live l) s n h = live_alike law c d v l s n h
    received_alike law c d v (Ended l) s n h = alike_same o c (Ended l)
    received_alike law c d v (Dead l x) s n h = alike_same o c (Dead l x)
    received_alike law c d v (Forked l ks) s n h =
        alike_forked o c l ks (all_received o d v ks) (all_received_alike law c d v l s.number 0 ks s.children n (second_holds (not (o.shares l c) || any_sharer o c ks) (all_wait_below o c ks) h))

    all_received_alike : LocalLaws o → (c d : Channel) (v : ℤ) (l : S) (f j : ℕ) (ks : Nodes S) → SoundChildren o l f j ks → (c ≡ d → ⊥) → all_wait_below o c ks ≡ true → AreAlike o c ks (all_received o d v ks)
    all_received_alike law c d v l f j no_node s n h = are_alike_same o c no_node
    all_received_alike law c d v l f j (node_and k ks) s n h =
        alike_first o c k (received o d v k) ks (all_received o d v ks)
        (received_alike law c d v k s.1 n (first_holds (all_wait o c k) (all_wait_below o c ks) h))
        (all_received_alike law c d v l f (j + 1) ks s.2 n (second_holds (all_wait o c k) (all_wait_below o c ks) h))

  -- one process stands at one of the two channels at most
  heard_once : LocalLaws o → (c d : Channel) (v w : ℤ) (l : S) → o.sound l → (c ≡ d → ⊥) → all_wait o c (Live l) ≡ true → is_next (o.stop l) d ≡ true → received o c v (received o d w (Live l)) ≡ received o d w (received o c v (Live l))
  heard_once law c d v w l s n h y =
      let none_of = waits_unshared c d l n h y in
      let no_more : o.shares (o.receive l w) c ≡ false = still_shares law c d w l s y ∙ none_of in
      let a : cond (is_next (o.stop l) d) (o.receive l w) l ≡ o.receive l w = ap (λ b. cond b (o.receive l w) l) y in
      ap (λ z. received o c v (Live z)) a
      ∙ (ap Live (unheard o law c v (o.receive l w) (hears_sound law d w l s y) no_more)
      ∙ (sym (ap Live a) ∙ sym (ap (λ z. received o d w (Live z)) (unheard o law c v l s none_of))))

  live_twice : LocalLaws o → (c d : Channel) (v w : ℤ) (l : S) → o.sound l → (c ≡ d → ⊥) → all_wait o c (Live l) ≡ true → all_wait o d (Live l) ≡ true → received o c v (received o d w (Live l)) ≡ received o d w (received o c v (Live l))
  live_twice law c d v w l s n h g =
      elim (true_or_false (is_next (o.stop l) d)) [
        | inl y ↦ heard_once law c d v w l s n h y
        | inr y ↦ elim (true_or_false (is_next (o.stop l) c)) [
          | inl z ↦ sym (heard_once law d c w v l s (λ e. n (sym e)) g z)
          | inr z ↦
              let a : cond (is_next (o.stop l) d) (o.receive l w) l ≡ l = ap (λ b. cond b (o.receive l w) l) y in
              let b : cond (is_next (o.stop l) c) (o.receive l v) l ≡ l = ap (λ b. cond b (o.receive l v) l) z in
              ap (λ q. received o c v (Live q)) a ∙ (ap Live b ∙ (sym (ap Live a) ∙ sym (ap (λ q. received o d w (Live q)) b)))
        ]
      ]

  mutual
    pub received_twice : LocalLaws o → (c d : Channel) (v w : ℤ) (n : Node S) → SoundBelow o n → (c ≡ d → ⊥) → all_wait o c n ≡ true → all_wait o d n ≡ true → received o c v (received o d w n) ≡ received o d w (received o c v n)
    received_twice law c d v w (Live l) s n h g = live_twice law c d v w l s n h g
    received_twice law c d v w (Ended l) s n h g = refl
    received_twice law c d v w (Dead l x) s n h g = refl
    received_twice law c d v w (Forked l ks) s n h g = ap (Forked l) (all_received_twice law c d v w l s.number 0 ks s.children n
        (second_holds (not (o.shares l c) || any_sharer o c ks) (all_wait_below o c ks) h) (second_holds (not (o.shares l d) || any_sharer o d ks) (all_wait_below o d ks) g))

    all_received_twice : LocalLaws o → (c d : Channel) (v w : ℤ) (l : S) (f j : ℕ) (ks : Nodes S) → SoundChildren o l f j ks → (c ≡ d → ⊥) → all_wait_below o c ks ≡ true → all_wait_below o d ks ≡ true
        → all_received o c v (all_received o d w ks) ≡ all_received o d w (all_received o c v ks)
    all_received_twice law c d v w l f j no_node s n h g = refl
    all_received_twice law c d v w l f j (node_and k ks) s n h g = λ i. node_and
        (received_twice law c d v w k s.1 n (first_holds (all_wait o c k) (all_wait_below o c ks) h) (first_holds (all_wait o d k) (all_wait_below o d ks) g) i)
        (all_received_twice law c d v w l f (j + 1) ks s.2 n (second_holds (all_wait o c k) (all_wait_below o c ks) h) (second_holds (all_wait o d k) (all_wait_below o d ks) g) i)
