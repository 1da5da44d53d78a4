-- Nobody waits for himself.
use Rattle.std.proofs.Common.{◌≡◌, ◌≢◌, ℕ, Option, Some, None, List, [], ◌∷◌, ◌++◌, inl, inr, cond, refl, sym, ap, subst, ◌∙◌}
use Rattle.std.proofs.lemmas.List.{append_assoc, append_cancel_left}
use Rattle.shim_base.specs.Paths.{Path, same_path}
use Rattle.shim_base.proofs.Facts.{some_same, none_some, true_or_false}
use Rattle.shim_base.proofs.SamePaths.{same_path_is}
use Rattle.shim_local.specs.Process.{Ops}
use Rattle.shim_local.specs.Laws.{LocalLaws, AllOf}
use Rattle.shim_base.specs.Lists.{IsAmong}
use Rattle.shim_semantics.specs.Nodes.{Node, Live, state}
use Rattle.shim_semantics.specs.Places.{at, at_route, branches, route, SoundBelow}
use Rattle.shim_semantics.specs.Trees.{Tree}
use Rattle.shim_semantics.proofs.Replaced.{sound_at}
use Rattle.shim_semantics.proofs.Routes.{at_path}
use Rattle.shim_waits.specs.Cycles.{by_of}
use Rattle.shim_waits.specs.Holding.{holds_up}
use Rattle.shim_waits.specs.Holds.{IsRing}
use Rattle.shim_waits.specs.Laws.{IsBlockedTree, HasTwo, NobodyWaitsForHimself}
use Rattle.shim_waits.specs.Waits.{IsWait}
use Rattle.shim_waits.specs.declared.explained.Wait.{Wait}
use Rattle.shim_waits.proofs.Found.{at_both}
use Rattle.shim_waits.proofs.HeldUp.{never_below}

-- the branches of a path in two parts
branches_both : (p q : Path) → branches (p ++ q) ≡ branches p ++ branches q
branches_both [] q = refl
branches_both (x ∷ p) q = ap (λ z. x.1 ∷ z) (branches_both p q)

-- where a node stands
led_at : {S : Type 0} (n m : Node S) (r : Option (List ℕ)) → at_route n r ≡ Some m → (q : List ℕ) × (at q n ≡ Some m)
led_at n m None e = none_some m e
led_at n m (Some q) e = (q, e)

-- what waits is an entry of it
by_entry : (ws : List Wait) (p q : Path) → by_of ws p ≡ Some q → (w : Wait) × IsAmong w ws × (w.path ≡ p) × (w.by ≡ q)
by_entry [] p q e = none_some q e
by_entry (w ∷ ws) p q e = elim (true_or_false (same_path w.path p)) [
  | inl y ↦ (w, inl refl, same_path_is w.path p y, some_same w.by q (sym (ap (λ b. cond b (Some w.by) (by_of ws p)) y) ∙ e))
  | inr n ↦ (let r = by_entry ws p q (sym (ap (λ b. cond b (Some w.by) (by_of ws p)) n) ∙ e) in (r.0, inr r.1, r.2, r.3))
]

of_all : {A : Type 0} (P : A → Type 0) (xs : List A) (x : A) → AllOf P xs → IsAmong x xs → P x
of_all P [] x all i = absurd i
of_all P (y ∷ xs) x all (inl h) = subst P (sym h) all.0
of_all P (y ∷ xs) x all (inr h) = of_all P xs x all.1 h

module _ {S : Type 0} (o : Ops S) where
  -- a node whose path goes on from another one's stands below that one
  below : (root n m : Node S) (q r : List ℕ) (s : Path) → SoundBelow o root → at q root ≡ Some n → at r root ≡ Some m → o.path (state m) ≡ o.path (state n) ++ s → at (branches s) n ≡ Some m
  below root n m q r s sound e f h =
      let x = at_path o root n q sound e in
      let y = at_path o root m r sound f in
      let same : y.0 ≡ x.0 ++ s = append_cancel_left (o.path (state root)) y.0 (x.0 ++ s) (sym y.1 ∙ (h ∙ (ap (λ z. z ++ s) x.1 ∙ append_assoc (o.path (state root)) x.0 s))) in
      let way : r ≡ q ++ branches s = sym y.2 ∙ (ap branches same ∙ (branches_both x.0 s ∙ ap (λ z. z ++ branches s) x.2)) in
      sym (at_both q (branches s) root n e) ∙ (ap (λ z. at z root) (sym way) ∙ f)

  other : LocalLaws o → (t : Tree S) (w : Wait) → IsBlockedTree o t → IsWait o t.root w → w.by ≢ w.path
  other law t w b x e =
      let holder = led_at t.root x.holding_node (route (o.path (state t.root)) w.holder) x.there.there in
      let waits = led_at t.root (Live x.process) (route (o.path (state t.root)) w.path) x.in_tree.there in
      let down : o.path x.process ≡ o.path (state x.holding_node) ++ x.below.0 = x.in_tree.is_its ∙ (sym e ∙ (x.below.1 ∙ ap (λ z. z ++ x.below.0) (sym x.there.is_its))) in
      let there = below t.root x.holding_node (Live x.process) holder.0 waits.0 x.below.0 b.sound.below holder.1 waits.1 down in
      let same = sym x.waits.2 in
      never_below o law x.waits.0 x.holding_node (branches x.below.0) x.process x.below_home.0 (sound_at o holder.0 t.root x.holding_node b.sound.below holder.1) (ap (λ z. holds_up o z x.holding_node) (sym same) ∙ x.holds)
      (x.there.is_its ∙ (x.below_home.1 ∙ ap (λ z. z.home ++ x.below_home.0) same)) there x.waits.1

  two_of : (ws : List Wait) (cycle : List Path) → ((w : Wait) → IsAmong w ws → w.by ≢ w.path) → IsRing ws cycle → HasTwo cycle
  two_of ws [] f r = absurd r
  two_of ws (p ∷ []) f r = let x = by_entry ws p p r in absurd (f x.0 x.1 (x.3 ∙ sym x.2))
  two_of ws (p ∷ q ∷ ps) f r = let x = by_entry ws p q r.0 in (p, q, inl refl, inr (inl refl), λ e. f x.0 x.1 (x.3 ∙ (sym e ∙ sym x.2)))

  pub nobody_for_himself : LocalLaws o → NobodyWaitsForHimself o
  nobody_for_himself law = record {
    other = other law;
    two = λ t e b x. two_of e.waits e.cycle (λ w i. other law t w b (of_all (IsWait o t.root) e.waits w x.each i)) x.ring;
  }
