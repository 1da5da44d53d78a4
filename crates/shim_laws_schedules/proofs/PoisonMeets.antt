-- A poison on one channel and a rendezvous on another may change places; where all sharers of a channel wait there is no poison on it.
use Rattle.std.proofs.Common.{◌≡◌, ℕ, zero, suc, ℤ, ◌+◌, ◌-◌, true, false, Some, List, [], ◌∷◌, ◌||◌, not, refl, sym, ap, subst, ◌∙◌}
use Rattle.shim_base.specs.Paths.{Channel}
use Rattle.shim_local.specs.Process.{Ops}
use Rattle.shim_local.specs.Laws.{LocalLaws}
use Rattle.shim_semantics.specs.Nodes.{Node, Nodes, Live, Forked, Ended, Dead, Death, death, no_node, node_and, state, any_sharer, received, all_received}
use Rattle.shim_semantics.specs.Poison.{poisoned, dooms, any_dooms, is_doomed, is_ready_child, one_poisoned, can_poison, above, before_rest, after_one, poison, poison_child}
use Rattle.shim_semantics.specs.Places.{SoundBelow, SoundChildren, IsChild}
use Rattle.shim_semantics.proofs.HowMany.{clash}
use Rattle.shim_laws_schedules.specs.Waiting.{all_wait, all_wait_below}
use Rattle.shim_laws_schedules.proofs.AllWait.{Alike, AreAlike, alike_same, are_alike_same, alike_forked, alike_first}
use Rattle.shim_laws_schedules.proofs.Homes.{NotBelow, child_outside, ready_all_wait}
use Rattle.shim_laws_schedules.proofs.Meets.{received_alike}
use Rattle.shim_laws_schedules.proofs.Poisons.{poisoned_alike, poisoned_heard, all_wait_undoomed, all_wait_below_undoomed}
use Rattle.shim_laws_schedules.proofs.Kills.{above_some, after_some, FromAbove, child_from_above, ready_alike, here_can, here_poisons}
use Rattle.shim_base.proofs.Facts.{none_some, first_holds, second_holds, cond_some, or_false}
use Rattle.shim_semantics.proofs.PoisonStays.{before_some}

module _ {S : Type 0} (o : Ops S) where
  -- ---- where all sharers of a channel wait there is no poison on it

  others_all_wait : (h : ℕ) (c : Channel) (i : ℕ) (ks : Nodes S) → all_wait_below o c ks ≡ true → is_doomed o h c i ks ≡ false
  others_all_wait h c i no_node e = refl
  others_all_wait h c zero (node_and k ks) e = all_wait_below_undoomed o h c ks (second_holds (all_wait o c k) (all_wait_below o c ks) e)
  others_all_wait h c (suc i) (node_and k ks) e =
      or_false (dooms o h c k) (is_doomed o h c i ks) (all_wait_undoomed o h c k (first_holds (all_wait o c k) (all_wait_below o c ks) e)) (others_all_wait h c i ks (second_holds (all_wait o c k) (all_wait_below o c ks) e))

  mutual
    pub all_wait_unpoisoned : (c : Channel) (i : ℕ) (p : List ℕ) (n m : Node S) → all_wait o c n ≡ true → poison o c i p n ≡ Some m → ⊥
    all_wait_unpoisoned c i [] (Live l) m g e = none_some m e
    all_wait_unpoisoned c i [] (Ended l) m g e = none_some m e
    all_wait_unpoisoned c i [] (Dead l x) m g e = none_some m e
    all_wait_unpoisoned c i (b ∷ p) (Live l) m g e = none_some m e
    all_wait_unpoisoned c i (b ∷ p) (Ended l) m g e = none_some m e
    all_wait_unpoisoned c i (b ∷ p) (Dead l x) m g e = none_some m e
    all_wait_unpoisoned c i [] (Forked l ks) m g e =
        let w = cond_some (can_poison o l c i ks) (Forked l (one_poisoned o c (death (o.handlers l - 1)) i ks)) m e in
        clash (is_doomed o (o.handlers l) c i ks) (second_holds (is_ready_child o c i ks) (is_doomed o (o.handlers l) c i ks) w.0)
        (others_all_wait (o.handlers l) c i ks (second_holds (not (o.shares l c) || any_sharer o c ks) (all_wait_below o c ks) g))
    all_wait_unpoisoned c i (b ∷ p) (Forked l ks) m g e =
        let w = above_some l (poison_child o c i b p ks) m e in all_wait_unpoisoned_in c i b p ks w.0 (second_holds (not (o.shares l c) || any_sharer o c ks) (all_wait_below o c ks) g) w.1

    all_wait_unpoisoned_in : (c : Channel) (i b : ℕ) (p : List ℕ) (ks ms : Nodes S) → all_wait_below o c ks ≡ true → poison_child o c i b p ks ≡ Some ms → ⊥
    all_wait_unpoisoned_in c i b p no_node ms g e = none_some ms e
    all_wait_unpoisoned_in c i zero p (node_and k ks) ms g e = let w = before_some ks (poison o c i p k) ms e in all_wait_unpoisoned c i p k w.0 (first_holds (all_wait o c k) (all_wait_below o c ks) g) w.1
    all_wait_unpoisoned_in c i (suc b) p (node_and k ks) ms g e = let w = after_some k (poison_child o c i b p ks) ms e in all_wait_unpoisoned_in c i b p ks w.0 (second_holds (all_wait o c k) (all_wait_below o c ks) g) w.1

  -- ---- a rendezvous dooms and spares nobody

  mutual
    dooms_heard : (h : ℕ) (c d : Channel) (v : ℤ) (n : Node S) → dooms o h c (received o d v n) ≡ dooms o h c n
    dooms_heard h c d v (Live l) = refl
    dooms_heard h c d v (Ended l) = refl
    dooms_heard h c d v (Dead l x) = refl
    dooms_heard h c d v (Forked l ks) = any_dooms_heard h c d v ks

    any_dooms_heard : (h : ℕ) (c d : Channel) (v : ℤ) (ks : Nodes S) → any_dooms o h c (all_received o d v ks) ≡ any_dooms o h c ks
    any_dooms_heard h c d v no_node = refl
    any_dooms_heard h c d v (node_and k ks) = λ i. dooms_heard h c d v k i || any_dooms_heard h c d v ks i

  others_heard : (h : ℕ) (c d : Channel) (v : ℤ) (i : ℕ) (ks : Nodes S) → is_doomed o h c i (all_received o d v ks) ≡ is_doomed o h c i ks
  others_heard h c d v i no_node = refl
  others_heard h c d v zero (node_and k ks) = any_dooms_heard h c d v ks
  others_heard h c d v (suc i) (node_and k ks) = λ t. dooms_heard h c d v k t || others_heard h c d v i ks t

  pub not_below_child : (l k : S) (f j : ℕ) (c : Channel) → IsChild o l f j k → NotBelow c (o.path l) → NotBelow c (o.path k)
  not_below_child l k f j c h n x r e = child_outside o l k f j c h n (x ∷ r) e

  -- ---- a rendezvous beside the poison of a child

  -- at the fork: the child is ready still, and the order of both is nothing
  record HeardHere (c d : Channel) (x : Death) (v : ℤ) (i : ℕ) (ks : Nodes S) : Type 0 where
    is_ready : is_ready_child o c i (all_received o d v ks) ≡ true
    swap : all_received o d v (one_poisoned o c x i ks) ≡ one_poisoned o c x i (all_received o d v ks)
    alike : AreAlike o d ks (one_poisoned o c x i ks)

  heard_here : LocalLaws o → (c d : Channel) (x : Death) (v : ℤ) (l : S) (f j i : ℕ) (ks : Nodes S) → SoundChildren o l f j ks → NotBelow c (o.path l) → (d ≡ c → ⊥) → all_wait_below o d ks ≡ true → is_ready_child o c i ks ≡ true → HeardHere c d x v i ks
  heard_here law c d x v l f j i no_node s n a g e = absurd cc
  heard_here law c d x v l f j zero (node_and k ks) s n a g e =
      let below = not_below_child l (state k) f j c s.0 n in
      let h = ready_all_wait o c k s.1 below e in
      let g1 = first_holds (all_wait o d k) (all_wait_below o d ks) g in
      record {
        is_ready = ready_alike o law c k (received o d v k) s.1 below e (received_alike o law c d v k s.1 (λ z. a (sym z)) h);
        swap = ap (λ z. node_and z (all_received o d v ks)) (poisoned_heard o law c d x v k s.1 a h g1);
        alike = alike_first o d k (poisoned o c x k) ks ks (poisoned_alike o law c d x k s.1 a h g1) (are_alike_same o d ks);
      }
  heard_here law c d x v l f j (suc i) (node_and k ks) s n a g e =
      let w = heard_here law c d x v l f (j + 1) i ks s.2 n a (second_holds (all_wait o d k) (all_wait_below o d ks) g) e in
      record { is_ready = w.is_ready; swap = ap (node_and (received o d v k)) w.swap; alike = alike_first o d k k ks (one_poisoned o c x i ks) (alike_same o d k) w.alike }

  -- the poison leaves all as it was to the other channel, and is the same after its rendezvous
  pub record MeetPoison (c d : Channel) (v : ℤ) (i : ℕ) (p : List ℕ) (n m : Node S) : Type 0 where
    pub alike : Alike o d n m
    pub poisons : poison o c i p (received o d v n) ≡ Some (received o d v m)

  -- the same among the children of a fork
  record MeetPoisonIn (c d : Channel) (v : ℤ) (i b : ℕ) (p : List ℕ) (ks ms : Nodes S) : Type 0 where
    alike : AreAlike o d ks ms
    poisons : poison_child o c i b p (all_received o d v ks) ≡ Some (all_received o d v ms)

  mutual
    pub meet_poison : LocalLaws o → (c d : Channel) (v : ℤ) (i : ℕ) (p : List ℕ) (n m : Node S) → SoundBelow o n → FromAbove o c (state n) → (d ≡ c → ⊥) → all_wait o d n ≡ true → poison o c i p n ≡ Some m → MeetPoison c d v i p n m
    meet_poison law c d v i [] (Live l) m s from a g e = none_some m e
    meet_poison law c d v i [] (Ended l) m s from a g e = none_some m e
    meet_poison law c d v i [] (Dead l x) m s from a g e = none_some m e
    meet_poison law c d v i (b ∷ p) (Live l) m s from a g e = none_some m e
    meet_poison law c d v i (b ∷ p) (Ended l) m s from a g e = none_some m e
    meet_poison law c d v i (b ∷ p) (Dead l x) m s from a g e = none_some m e
    meet_poison law c d v i [] (Forked l ks) m s from a g e =
        let w = here_can o law c i l ks m s from e in
        let k = heard_here law c d (death (o.handlers l - 1)) v l s.number 0 i ks s.children w.none_below a (second_holds (not (o.shares l d) || any_sharer o d ks) (all_wait_below o d ks) g) w.waits in
        let there = here_poisons o c i l (all_received o d v ks) k.is_ready (others_heard (o.handlers l) c d v i ks ∙ w.doomed) in
        subst (MeetPoison c d v i [] (Forked l ks)) w.is
        (record { alike = alike_forked o d l ks (one_poisoned o c (death (o.handlers l - 1)) i ks) k.alike; poisons = there ∙ ap (λ z. Some (Forked l z)) (sym k.swap) })
    meet_poison law c d v i (b ∷ p) (Forked l ks) m s from a g e =
        let w = above_some l (poison_child o c i b p ks) m e in
        let k = meet_poison_in law c d v i l s.number 0 b p ks w.0 s.children from a (second_holds (not (o.shares l d) || any_sharer o d ks) (all_wait_below o d ks) g) w.1 in
        subst (MeetPoison c d v i (b ∷ p) (Forked l ks)) w.2 (record { alike = alike_forked o d l ks w.0 k.alike; poisons = ap (above l) k.poisons })

    meet_poison_in : LocalLaws o → (c d : Channel) (v : ℤ) (i : ℕ) (l : S) (f j b : ℕ) (p : List ℕ) (ks ms : Nodes S) → SoundChildren o l f j ks → FromAbove o c l → (d ≡ c → ⊥) → all_wait_below o d ks ≡ true → poison_child o c i b p ks ≡ Some ms → MeetPoisonIn c d v i b p ks ms
    meet_poison_in law c d v i l f j b p no_node ms s from a g e = none_some ms e
    meet_poison_in law c d v i l f j zero p (node_and k ks) ms s from a g e =
        let w = before_some ks (poison o c i p k) ms e in
        let h = meet_poison law c d v i p k w.0 s.1 (child_from_above o l (state k) f j c s.0 from) a (first_holds (all_wait o d k) (all_wait_below o d ks) g) w.1 in
        subst (MeetPoisonIn c d v i zero p (node_and k ks)) w.2 (record { alike = alike_first o d k w.0 ks ks h.alike (are_alike_same o d ks); poisons = ap (before_rest (all_received o d v ks)) h.poisons })
    meet_poison_in law c d v i l f j (suc b) p (node_and k ks) ms s from a g e =
        let w = after_some k (poison_child o c i b p ks) ms e in
        let h = meet_poison_in law c d v i l f (j + 1) b p ks w.0 s.2 from a (second_holds (all_wait o d k) (all_wait_below o d ks) g) w.1 in
        subst (MeetPoisonIn c d v i (suc b) p (node_and k ks)) w.2 (record { alike = alike_first o d k k ks w.0 (alike_same o d k) h.alike; poisons = ap (after_one (received o d v k)) h.poisons })
