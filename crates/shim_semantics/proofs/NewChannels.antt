-- A channel that is new at a process is carried by nobody in a sound tree.
use Rattle.std.proofs.Common.{◌≡◌, ℕ, zero, suc, ◌+◌, false, Some, None, List, [], ◌∷◌, ◌++◌, inl, inr, refl, sym, ap, ◌∙◌, arith}
use Rattle.std.proofs.lemmas.List.{append_assoc}
use Rattle.shim_base.specs.Paths.{Path, Channel}
use Rattle.shim_local.specs.Process.{Ops}
use Rattle.shim_local.specs.Laws.{LocalLaws, how_many}
use Rattle.shim_semantics.specs.Nodes.{Node, Nodes, Live, Forked, Ended, Dead, no_node, node_and, state, everyone, everyone_of}
use Rattle.shim_semantics.specs.Places.{at, child_at, branches, option_branches, route, IsChild, SoundBelow, SoundChildren}
use Rattle.shim_semantics.specs.Sound.{SharesItsOwn, carriers}
use Rattle.shim_semantics.proofs.Sameness.{after_front_of}
use Rattle.shim_semantics.proofs.Routes.{at_path, route_of}
use Rattle.shim_semantics.proofs.HowMany.{clash, uncounted, count_both}
use Rattle.shim_semantics.proofs.Follows.{IsNew, by_own, by_child}
use Rattle.shim_base.proofs.Facts.{some_same, none_some, true_or_false}

none_in_both : (whole a b : ℕ) → whole ≡ a + b → a ≡ 0 → b ≡ 0 → whole ≡ 0
none_in_both whole a b e f g = omega arith

mutual
  -- below a live process there is none
  none_below : {S : Type 0} (q : List ℕ) (i : ℕ) (n : Node S) (l : S) → at q n ≡ Some (Live l) → at (q ++ i ∷ []) n ≡ None
  none_below [] i n l e = ap (at (i ∷ [])) (some_same n (Live l) e)
  none_below (b ∷ q) i (Live k) l e = none_some (Live l) e
  none_below (b ∷ q) i (Ended k) l e = none_some (Live l) e
  none_below (b ∷ q) i (Dead k x) l e = none_some (Live l) e
  none_below (b ∷ q) i (Forked k ks) l e = none_below_in b q i ks l e

  none_below_in : {S : Type 0} (b : ℕ) (q : List ℕ) (i : ℕ) (ks : Nodes S) (l : S) → child_at b q ks ≡ Some (Live l) → child_at b (q ++ i ∷ []) ks ≡ None
  none_below_in b q i no_node l e = none_some (Live l) e
  none_below_in zero q i (node_and k ks) l e = none_below q i k l e
  none_below_in (suc b) q i (node_and k ks) l e = none_below_in b q i ks l e

branches_further : (r : Path) (x : ℕ × ℕ) → branches (r ++ x ∷ []) ≡ branches r ++ x.1 ∷ []
branches_further [] x = refl
branches_further (y ∷ r) x = ap (λ z. y.1 ∷ z) (branches_further r x)

module _ {S : Type 0} (o : Ops S) where
  -- the channel is shared by no process whose own it is, here or below
  abbrev IsUnshared : Channel → Node S → Type 0
  IsUnshared c n = (q : List ℕ) (a : Node S) → at q n ≡ Some a → c.home ≡ o.path (state a) → o.shares (state a) c ≡ false

  -- who doesn't share it doesn't carry it
  not_carried : LocalLaws o → (c : Channel) (l : S) → o.sound l → o.shares l c ≡ false → o.carries l c ≡ false
  not_carried law c l s n = elim (true_or_false (o.carries l c)) [
    | inl y ↦ clash (o.shares l c) (law.carries_shares l c s y) n
    | inr w ↦ w
  ]

  child_unshared : (c : Channel) (l : S) (f j : ℕ) (k : S) → IsChild o l f j k → o.shares l c ≡ false → (c.home ≡ o.path k → o.shares k c ≡ false) → o.shares k c ≡ false
  child_unshared c l f j k s n h = elim (true_or_false (o.shares k c)) [
    | inl y ↦ elim (s.shares c y) [ inl z ↦ clash (o.shares l c) z n | inr z ↦ h z ]
    | inr w ↦ w
  ]

  mutual
    none_carry : LocalLaws o → (c : Channel) (n : Node S) → SoundBelow o n → o.shares (state n) c ≡ false → IsUnshared c n → carriers o c n ≡ 0
    none_carry law c (Live l) s e h = uncounted (λ z. o.carries z c) l [] (not_carried law c l s e) refl
    none_carry law c (Ended l) s e h = uncounted (λ z. o.carries z c) l [] (not_carried law c l s e) refl
    none_carry law c (Dead l x) s e h = uncounted (λ z. o.carries z c) l [] (not_carried law c l s.sound e) refl
    none_carry law c (Forked l ks) s e h = uncounted (λ z. o.carries z c) l (everyone_of ks) (not_carried law c l s.sound e)
        (none_carry_in law c l s.number 0 ks s.children e (λ i q a. h (i ∷ q) a))

    none_carry_in : LocalLaws o → (c : Channel) (l : S) (f j : ℕ) (ks : Nodes S) → SoundChildren o l f j ks → o.shares l c ≡ false
        → ((i : ℕ) (q : List ℕ) (a : Node S) → child_at i q ks ≡ Some a → c.home ≡ o.path (state a) → o.shares (state a) c ≡ false)
        → how_many (λ z. o.carries z c) (everyone_of ks) ≡ 0
    none_carry_in law c l f j no_node s e h = refl
    none_carry_in law c l f j (node_and k ks) s e h =
        none_in_both (how_many (λ z. o.carries z c) (everyone k ++ everyone_of ks)) (how_many (λ z. o.carries z c) (everyone k)) (how_many (λ z. o.carries z c) (everyone_of ks))
        (count_both (λ z. o.carries z c) (everyone k) (everyone_of ks))
        (none_carry law c k s.1 (child_unshared c l f j (state k) s.0 e (h zero [] k refl)) (λ q a. h zero q a))
        (none_carry_in law c l f (j + 1) ks s.2 e (λ i q a. h (suc i) q a))

  -- the node of a path is one alone
  same_node : (root m a : Node S) (q p : List ℕ) → SoundBelow o root → at q root ≡ Some m → at p root ≡ Some a → o.path (state m) ≡ o.path (state a) → m ≡ a
  same_node root m a q p s e f h =
      let there : Some q ≡ Some p = sym (route_of o root m q (o.path (state a)) s e h) ∙ route_of o root a p (o.path (state a)) s f refl in
      some_same m a (sym e ∙ (ap (λ z. at z root) (some_same q p there) ∙ f))

  -- a child that a live process would have isn't there
  no_child : {A : Type 0} (root a : Node S) (q p : List ℕ) (l : S) (x : ℕ × ℕ) → SoundBelow o root → at q root ≡ Some (Live l) → at p root ≡ Some a → o.path (state a) ≡ o.path l ++ x ∷ [] → A
  no_child root a q p l x s e f h =
      let y = at_path o root (Live l) q s e in
      let is : o.path (state root) ++ (y.0 ++ x ∷ []) ≡ o.path (state a) = sym (append_assoc (o.path (state root)) y.0 (x ∷ [])) ∙ (ap (λ z. z ++ x ∷ []) (sym y.1) ∙ sym h) in
      let there : route (o.path (state root)) (o.path (state a)) ≡ Some (branches (y.0 ++ x ∷ [])) =
      ap (λ z. route (o.path (state root)) z) (sym is) ∙ ap option_branches (after_front_of (o.path (state root)) (y.0 ++ x ∷ [])) in
      let same : p ≡ branches (y.0 ++ x ∷ []) = some_same p (branches (y.0 ++ x ∷ [])) (sym (route_of o root a p (o.path (state a)) s f refl) ∙ there) in
      let further : p ≡ q ++ x.1 ∷ [] = same ∙ (branches_further y.0 x ∙ ap (λ z. z ++ x.1 ∷ []) y.2) in
      none_some a (sym (none_below q x.1 root l e) ∙ (ap (λ z. at z root) (sym further) ∙ f))

  unshared : (root m : Node S) (q : List ℕ) → SoundBelow o root → at q root ≡ Some m → (c : Channel) → IsNew o c m → IsUnshared c root
  unshared root m q s e c (by_own home n) p a f at_home = ap (λ z. o.shares (state z) c) (sym (same_node root m a q p s e f (sym home ∙ at_home))) ∙ n
  unshared root m q s e c (by_child l x live home) p a f at_home = no_child root a q p l x s (e ∙ ap Some live) f (sym at_home ∙ home)

  pub nobody_carries : LocalLaws o → (root m : Node S) (q : List ℕ) → SoundBelow o root → SharesItsOwn o (state root) → at q root ≡ Some m → (c : Channel) → IsNew o c m → carriers o c root ≡ 0
  nobody_carries law root m q s own e c new =
      let h = unshared root m q s e c new in
      let here : o.shares (state root) c ≡ false = elim (true_or_false (o.shares (state root) c)) [ inl y ↦ h [] root refl (own c y) | inr w ↦ w ] in
      none_carry law c root s here h
