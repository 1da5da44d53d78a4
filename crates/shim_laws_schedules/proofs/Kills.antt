-- A poison at a fork, and a process that acts below: none of the poisoned acts, and the child stays ready and doomed.
use Rattle.std.proofs.Common.{◌≡◌, ℕ, zero, suc, ◌+◌, ◌-◌, true, false, Option, Some, None, List, [], ◌∷◌, ◌++◌, ◌&&◌, inl, inr, not, cond, refl, sym, ap, subst, ◌∙◌}
use Rattle.std.proofs.lemmas.List.{append_assoc, append-nil}
use Rattle.shim_base.specs.Paths.{Channel}
use Rattle.shim_local.specs.Process.{Ops}
use Rattle.shim_local.specs.Laws.{LocalLaws}
use Rattle.shim_semantics.specs.Nodes.{Node, Nodes, Live, Forked, Ended, Dead, Death, death, no_node, node_and, state, goes, all_done, any_sharer, ready, all_ready}
use Rattle.shim_semantics.specs.Acts.{Acted, act_here}
use Rattle.shim_semantics.specs.Poison.{poisoned, is_doomed, is_ready_child, one_poisoned, can_poison, poison_node, above, before_rest, after_one, poison, poison_child}
use Rattle.shim_semantics.specs.Places.{at, child_at, SoundBelow, SoundChildren, IsChild}
use Rattle.shim_semantics.proofs.HowMany.{clash, no_less}
use Rattle.shim_semantics.proofs.Routes.{at_path}
use Rattle.shim_semantics.proofs.ReplacedNodes.{put, put_child}
use Rattle.shim_semantics.proofs.Replaced.{sound_at}
use Rattle.shim_semantics.proofs.SoundEvents.{here_keeps}
use Rattle.shim_laws_schedules.proofs.AllWait.{Alike, alike_put}
use Rattle.shim_laws_schedules.proofs.Unshared.{stands_shares, is_unshared_alike}
use Rattle.shim_laws_schedules.proofs.Homes.{Outside, NotBelow, no_further, child_outside, unshared_is_unshared, ready_all_wait, all_wait_ready, ready_goes}
use Rattle.shim_laws_schedules.proofs.Elsewhere.{closing, acts_unshared, all_wait_at, leaves_unshared}
use Rattle.shim_laws_schedules.proofs.Poisons.{is_unshared_poisoned, poisoned_put, poisoned_at}
use Rattle.shim_laws_schedules.proofs.Dooms.{poisoned_shares, act_doomed}
use Rattle.shim_base.proofs.Facts.{some_same, none_some, first_holds, second_holds, both_hold, either_holds, cond_some}
use Rattle.shim_semantics.proofs.PoisonStays.{before_some}

pub above_some : {S : Type 0} (l : S) (x : Option (Nodes S)) (m : Node S) → above l x ≡ Some m → (ks : Nodes S) × (x ≡ Some ks) × (Forked l ks ≡ m)
above_some l None m e = none_some m e
above_some l (Some ks) m e = (ks, refl, some_same (Forked l ks) m e)

pub after_some : {S : Type 0} (k : Node S) (x : Option (Nodes S)) (js : Nodes S) → after_one k x ≡ Some js → (ks : Nodes S) × (x ≡ Some ks) × (node_and k ks ≡ js)
after_some k None js e = none_some js e
after_some k (Some ks) js e = (ks, refl, some_same (node_and k ks) js e)

module _ {S : Type 0} (o : Ops S) where
  -- ---- what one that is ready is

  any_shares : (m : S) (g a : ℕ) (c : Channel) (js : Nodes S) → SoundChildren o m g a js → NotBelow c (o.path m) → any_sharer o c js ≡ true → o.shares m c ≡ true
  any_shares m g a c no_node s n e = absurd cc
  any_shares m g a c (node_and t js) s n e = elim (either_holds (goes t && o.shares (state t) c) (any_sharer o c js) e) [
    | inl z ↦ elim (s.0.shares c (second_holds (goes t) (o.shares (state t) c) z)) [ inl v ↦ v | inr v ↦ absurd (child_outside o m (state t) g a c s.0 n [] (v ∙ sym (append-nil (o.path (state t))))) ]
    | inr z ↦ any_shares m g (a + 1) c js s.2 n z
  ]

  ready_shares : LocalLaws o → (c : Channel) (n : Node S) → SoundBelow o n → NotBelow c (o.path (state n)) → ready o c n ≡ true → o.shares (state n) c ≡ true
  ready_shares law c (Live m) s out h = stands_shares o law c m s h
  ready_shares law c (Forked m js) s out h = any_shares m s.number 0 c js s.children out (first_holds (any_sharer o c js) (all_ready o c js) h)
  ready_shares law c (Ended m) s out h = absurd cc
  ready_shares law c (Dead m z) s out h = absurd cc

  -- one that is ready stays so where it is the same to the channel
  pub ready_alike : LocalLaws o → (c : Channel) (n m : Node S) → SoundBelow o n → NotBelow c (o.path (state n)) → ready o c n ≡ true → Alike o c n m → ready o c m ≡ true
  ready_alike law c n m s out h alike =
      let shared : goes m && o.shares (state m) c ≡ true = sym alike.sharer ∙ both_hold (goes n) (o.shares (state n) c) (ready_goes o c n h) (ready_shares law c n s out h) in
      all_wait_ready o c m (sym alike.all_wait ∙ ready_all_wait o c n s out h) (second_holds (goes m) (o.shares (state m) c) shared) (first_holds (goes m) (o.shares (state m) c) shared)

  -- ---- a process that acts in a child that is ready

  -- before a poison and after it
  record InsidePoisoned (c : Channel) (x : Death) (q : List ℕ) (n m a : Node S) : Type 0 where
    pub is_ready : ready o c (put q a n) ≡ true
    pub there : at q (poisoned o c x n) ≡ Some m
    pub swap : put q a (poisoned o c x n) ≡ poisoned o c x (put q a n)

  inside_poisoned : LocalLaws o → (c : Channel) (x : Death) (q : List ℕ) (n m : Node S) (a : Acted S) → SoundBelow o n → Outside c (o.path (state n)) → ready o c n ≡ true → at q n ≡ Some m → act_here o m ≡ Some a → InsidePoisoned c x q n m a.node
  inside_poisoned law c x q n m a s out r e f =
      let none_below : NotBelow c (o.path (state n)) = λ z t. out (z ∷ t) in
      let below = sound_at o q n m s e in
      let unshared = acts_unshared o c m a (all_wait_at o c q n m (ready_all_wait o c n s none_below r) e) f in
      let path = at_path o n m q s e in
      let outside : Outside c (o.path (state m)) = λ t z. out (path.0 ++ t) (z ∙ (ap (λ u. u ++ t) path.1 ∙ append_assoc (o.path (state n)) path.0 t)) in
      let before = unshared_is_unshared o c m below unshared outside in
      let behind = leaves_unshared o law c m a below f unshared outside in
      let alike = alike_put o c q n m a.node e (is_unshared_alike o law c m a.node below (here_keeps o law m a below f).below before behind) in
      record {
        is_ready = ready_alike law c n (put q a.node n) s none_below r alike;
        there = poisoned_at o c x q n m e ∙ ap Some (is_unshared_poisoned o c x m before);
        swap = ap (λ z. put q z (poisoned o c x n)) (sym (is_unshared_poisoned o c x a.node behind)) ∙ sym (poisoned_put o c x q a.node n);
      }

  -- the same at the fork one of whose children is poisoned
  record BesidePoisoned (c : Channel) (x : Death) (i b : ℕ) (q : List ℕ) (ks : Nodes S) (m a : Node S) : Type 0 where
    pub is_ready : is_ready_child o c i (put_child b q a ks) ≡ true
    pub there : child_at b q (one_poisoned o c x i ks) ≡ Some m
    pub swap : put_child b q a (one_poisoned o c x i ks) ≡ one_poisoned o c x i (put_child b q a ks)

  beside_poisoned : LocalLaws o → (c : Channel) (x : Death) (l : S) (f j : ℕ) (i b : ℕ) (q : List ℕ) (ks : Nodes S) (m : Node S) (a : Acted S) → SoundChildren o l f j ks → NotBelow c (o.path l) → is_ready_child o c i ks ≡ true → child_at b q ks ≡ Some m → act_here o m ≡ Some a → BesidePoisoned c x i b q ks m a.node
  beside_poisoned law c x l f j i b q no_node m a s n y e g = none_some m e
  beside_poisoned law c x l f j zero zero q (node_and k ks) m a s n y e g =
      let w = inside_poisoned law c x q k m a s.1 (child_outside o l (state k) f j c s.0 n) y e g in
      record { is_ready = w.is_ready; there = w.there; swap = ap (λ z. node_and z ks) w.swap }
  beside_poisoned law c x l f j zero (suc b) q (node_and k ks) m a s n y e g = record { is_ready = y; there = e; swap = refl }
  beside_poisoned law c x l f j (suc i) zero q (node_and k ks) m a s n y e g = record { is_ready = y; there = e; swap = refl }
  beside_poisoned law c x l f j (suc i) (suc b) q (node_and k ks) m a s n y e g =
      let w = beside_poisoned law c x l f (j + 1) i b q ks m a s.2 n y e g in
      record { is_ready = w.is_ready; there = w.there; swap = ap (node_and k) w.swap }

  -- ---- what a poison needs of its fork

  -- the channel is declared by none below one that shares it
  abbrev pub FromAbove : Channel → S → Type 0
  FromAbove c l = o.shares l c ≡ true → NotBelow c (o.path l)

  -- so it is in a tree whose root shares only channels of its own
  pub root_from_above : (c : Channel) (l : S) → (o.shares l c ≡ true → c.home ≡ o.path l) → FromAbove c l
  root_from_above c l own y x r e = no_further (o.path l) x r (sym (own y) ∙ e)

  pub child_from_above : (l k : S) (f j : ℕ) (c : Channel) → IsChild o l f j k → FromAbove c l → FromAbove c k
  child_from_above l k f j c h from y x r e = elim (h.shares c y) [
    | inl z ↦ child_outside o l k f j c h (from z) (x ∷ r) e
    | inr z ↦ no_further (o.path k) x r (sym z ∙ e)
  ]

  -- the child in this place of the fork of l can be poisoned, and what is left is m
  pub record CanPoison (c : Channel) (i : ℕ) (l : S) (ks : Nodes S) (m : Node S) : Type 0 where
    pub waits : is_ready_child o c i ks ≡ true
    pub doomed : is_doomed o (o.handlers l) c i ks ≡ true
    pub none_below : NotBelow c (o.path l)
    pub is : Forked l (one_poisoned o c (death (o.handlers l - 1)) i ks) ≡ m

  pub here_can : LocalLaws o → (c : Channel) (i : ℕ) (l : S) (ks : Nodes S) (m : Node S) → SoundBelow o (Forked l ks) → FromAbove c l → poison_node o c i (Forked l ks) ≡ Some m → CanPoison c i l ks m
  here_can law c i l ks m s from e =
      let w = cond_some (can_poison o l c i ks) (Forked l (one_poisoned o c (death (o.handlers l - 1)) i ks)) m e in
      let r = first_holds (is_ready_child o c i ks) (is_doomed o (o.handlers l) c i ks) w.0 in
      let d = second_holds (is_ready_child o c i ks) (is_doomed o (o.handlers l) c i ks) w.0 in
      record { waits = r; doomed = d; none_below = from (poisoned_shares o law (o.handlers l) c i l ks s r d); is = w.1 }

  pub here_poisons : (c : Channel) (i : ℕ) (l : S) (ks : Nodes S) → is_ready_child o c i ks ≡ true → is_doomed o (o.handlers l) c i ks ≡ true → poison_node o c i (Forked l ks) ≡ Some (Forked l (one_poisoned o c (death (o.handlers l - 1)) i ks))
  here_poisons c i l ks r d = ap (λ b. cond b (Some (Forked l (one_poisoned o c (death (o.handlers l - 1)) i ks))) None) (both_hold (is_ready_child o c i ks) (is_doomed o (o.handlers l) c i ks) r d)

  -- ---- no poison at or below a fork whose children are done

  done_unready : (c : Channel) (i : ℕ) (ks : Nodes S) → all_done ks ≡ true → is_ready_child o c i ks ≡ false
  done_unready c i no_node e = refl
  done_unready c zero (node_and (Live l) ks) e = absurd cc
  done_unready c zero (node_and (Forked l js) ks) e = absurd cc
  done_unready c zero (node_and (Ended l) ks) e = refl
  done_unready c zero (node_and (Dead l x) ks) e = refl
  done_unready c (suc i) (node_and k ks) e = done_unready c i ks (second_holds (not (goes k)) (all_done ks) e)

  done_poison : (c : Channel) (i : ℕ) (p : List ℕ) (k : Node S) → not (goes k) ≡ true → poison o c i p k ≡ None
  done_poison c i p (Live l) e = absurd cc
  done_poison c i p (Forked l ks) e = absurd cc
  done_poison c i [] (Ended l) e = refl
  done_poison c i (b ∷ p) (Ended l) e = refl
  done_poison c i [] (Dead l x) e = refl
  done_poison c i (b ∷ p) (Dead l x) e = refl

  done_poison_in : (c : Channel) (i b : ℕ) (p : List ℕ) (ks : Nodes S) → all_done ks ≡ true → poison_child o c i b p ks ≡ None
  done_poison_in c i b p no_node e = refl
  done_poison_in c i zero p (node_and k ks) e = ap (before_rest ks) (done_poison c i p k (first_holds (not (goes k)) (all_done ks) e))
  done_poison_in c i (suc b) p (node_and k ks) e = ap (after_one k) (done_poison_in c i b p ks (second_holds (not (goes k)) (all_done ks) e))

  no_poison : (c : Channel) (i : ℕ) (p : List ℕ) (l : S) (ks : Nodes S) (m : Node S) → all_done ks ≡ true → poison o c i p (Forked l ks) ≡ Some m → ⊥
  no_poison c i [] l ks m d e =
      clash (is_ready_child o c i ks) (first_holds (is_ready_child o c i ks) (is_doomed o (o.handlers l) c i ks) (cond_some (can_poison o l c i ks) (Forked l (one_poisoned o c (death (o.handlers l - 1)) i ks)) m e).0) (done_unready c i ks d)
  no_poison c i (b ∷ p) l ks m d e = none_some m (sym (ap (above l) (done_poison_in c i b p ks d)) ∙ e)

  -- ---- a poison anywhere and an act anywhere

  -- who acts is untouched by the poison, and the poison is the same after the act
  pub record ActPoison (c : Channel) (i : ℕ) (p q : List ℕ) (n k m a : Node S) : Type 0 where
    pub there : at q k ≡ Some m
    pub poisons : poison o c i p (put q a n) ≡ Some (put q a k)

  -- the same among the children of a fork
  record ActPoisonIn (c : Channel) (i b : ℕ) (p : List ℕ) (d : ℕ) (q : List ℕ) (ns ks : Nodes S) (m a : Node S) : Type 0 where
    there : child_at d q ks ≡ Some m
    poisons : poison_child o c i b p (put_child d q a ns) ≡ Some (put_child d q a ks)

  mutual
    pub act_poison : LocalLaws o → (c : Channel) (i : ℕ) (p q : List ℕ) (n k m : Node S) (a : Acted S) → SoundBelow o n → FromAbove c (state n) → poison o c i p n ≡ Some k → at q n ≡ Some m → act_here o m ≡ Some a → ActPoison c i p q n k m a.node
    act_poison law c i [] q (Live l) k m a s from e f g = none_some k e
    act_poison law c i [] q (Ended l) k m a s from e f g = none_some k e
    act_poison law c i [] q (Dead l x) k m a s from e f g = none_some k e
    act_poison law c i (b ∷ p) q (Live l) k m a s from e f g = none_some k e
    act_poison law c i (b ∷ p) q (Ended l) k m a s from e f g = none_some k e
    act_poison law c i (b ∷ p) q (Dead l x) k m a s from e f g = none_some k e
    act_poison law c i p [] (Forked l ks) k m a s from e f g = absurd (no_poison c i p l ks k (closing o l ks a (ap (act_here o) (some_same (Forked l ks) m f) ∙ g)).0 e)
    act_poison law c i [] (d ∷ q) (Forked l ks) k m a s from e f g =
        let w = here_can law c i l ks k s from e in
        let r = beside_poisoned law c (death (o.handlers l - 1)) l s.number 0 i d q ks m a s.children w.none_below w.waits f g in
        let z = act_doomed o law (o.handlers l) c l s.number 0 i d q ks m a s.children w.none_below (no_less (o.handlers l)) w.doomed f g in
        subst (λ y. ActPoison c i [] (d ∷ q) (Forked l ks) y m a.node) w.is
        (record { there = r.there; poisons = here_poisons c i l (put_child d q a.node ks) r.is_ready z ∙ ap (λ y. Some (Forked l y)) (sym r.swap) })
    act_poison law c i (b ∷ p) (d ∷ q) (Forked l ks) k m a s from e f g =
        let x = above_some l (poison_child o c i b p ks) k e in
        let w = act_poison_in law c i l s.number 0 b p d q ks x.0 m a s.children from x.1 f g in
        subst (λ y. ActPoison c i (b ∷ p) (d ∷ q) (Forked l ks) y m a.node) x.2 (record { there = w.there; poisons = ap (above l) w.poisons })

    act_poison_in : LocalLaws o → (c : Channel) (i : ℕ) (l : S) (f j : ℕ) (b : ℕ) (p : List ℕ) (d : ℕ) (q : List ℕ) (ns ks : Nodes S) (m : Node S) (a : Acted S) → SoundChildren o l f j ns → FromAbove c l → poison_child o c i b p ns ≡ Some ks → child_at d q ns ≡ Some m → act_here o m ≡ Some a
        → ActPoisonIn c i b p d q ns ks m a.node
    act_poison_in law c i l f j b p d q no_node ks m a s from e g h = none_some ks e
    act_poison_in law c i l f j zero p zero q (node_and n ns) ks m a s from e g h =
        let x = before_some ns (poison o c i p n) ks e in
        let w = act_poison law c i p q n x.0 m a s.1 (child_from_above l (state n) f j c s.0 from) x.1 g h in
        subst (λ y. ActPoisonIn c i zero p zero q (node_and n ns) y m a.node) x.2 (record { there = w.there; poisons = ap (before_rest ns) w.poisons })
    act_poison_in law c i l f j zero p (suc d) q (node_and n ns) ks m a s from e g h =
        let x = before_some ns (poison o c i p n) ks e in
        subst (λ y. ActPoisonIn c i zero p (suc d) q (node_and n ns) y m a.node) x.2 (record { there = g; poisons = ap (before_rest (put_child d q a.node ns)) x.1 })
    act_poison_in law c i l f j (suc b) p zero q (node_and n ns) ks m a s from e g h =
        let x = after_some n (poison_child o c i b p ns) ks e in
        subst (λ y. ActPoisonIn c i (suc b) p zero q (node_and n ns) y m a.node) x.2 (record { there = g; poisons = ap (after_one (put q a.node n)) x.1 })
    act_poison_in law c i l f j (suc b) p (suc d) q (node_and n ns) ks m a s from e g h =
        let x = after_some n (poison_child o c i b p ns) ks e in
        let w = act_poison_in law c i l f (j + 1) b p d q ns x.0 m a s.2 from x.1 g h in
        subst (λ y. ActPoisonIn c i (suc b) p (suc d) q (node_and n ns) y m a.node) x.2 (record { there = w.there; poisons = ap (after_one n) w.poisons })
