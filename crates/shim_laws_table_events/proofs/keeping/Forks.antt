-- Where another node without children is in a place, each fork was one before, with what stays of its children.
use Rattle.std.proofs.Common.{◌≡◌, ◌≢◌, ℕ, ◌+◌, Bool, true, false, Some, List, [], ◌∷◌, ◌++◌, inl, inr, refl, sym, ap, subst, ◌∙◌, arith}
use Rattle.shim_base.specs.Paths.{Channel}
use Rattle.shim_base.proofs.Facts.{some_same}
use Rattle.shim_local.specs.Process.{Ops}
use Rattle.shim_semantics.specs.Nodes.{Node, Nodes, Forked, goes}
use Rattle.shim_semantics.specs.Places.{at}
use Rattle.shim_semantics.proofs.ReplacedNodes.{put, put_child}
use Rattle.shim_laws_table.specs.NodeStatus.{is_leaf, IsAside}
use Rattle.shim_laws_table.specs.Places.{IsReplaced}
use Rattle.shim_laws_table.specs.Counts.{going_of, bit}
use Rattle.shim_laws_table.specs.Tallied.{is_above}
use Rattle.shim_laws_table.proofs.Aside.{at_split}
use Rattle.shim_laws_table.proofs.SameTrees.{aside_or_further, is_put}
use Rattle.shim_laws_table.proofs.PlacesAbove.{way_from, fork_above, with_split, untouched, leaf_no_fork}
use Rattle.shim_laws_table.proofs.Begun.{fork_parts}
use Rattle.shim_laws_table.proofs.Linked.{running_follow}

no_channel : Channel
no_channel = record { home = []; serial = 0 }

module _ {S : Type 0} (o : Ops S) (q : List ℕ) (m a old new : Node S) (rep : IsReplaced q m a old new) (leaf : is_leaf a ≡ true) where
  -- the fork in a place, with children of which the same is said before
  pub record Was {X : Type 0} (F : Nodes S → X) (r : List ℕ) (l : S) (ks : Nodes S) : Type 0 where
    pub children : Nodes S
    pub there : at r old ≡ Some (Forked l children)
    pub same : F ks ≡ F children

  pub carried : {X : Type 0} (F : Nodes S → X) → ((r : List ℕ) (l : S) (ks js : Nodes S) → is_above r q ≡ true → at r old ≡ Some (Forked l ks) → at r new ≡ Some (Forked l js) → F js ≡ F ks)
      → (r : List ℕ) (l : S) (ks : Nodes S) → at r new ≡ Some (Forked l ks) → Was F r l ks
  carried F stays r l ks there = elim (aside_or_further q r) [
    | inr x ↦ leaf_no_fork x.0 a l ks leaf (sym (at_split q x.0 new a rep.is) ∙ (ap (λ z. at z new) (sym x.1) ∙ there))
    | inl far ↦ on far (is_above r q) refl
  ]
    where
      on : IsAside r q → (b : Bool) → is_above r q ≡ b → Was F r l ks
      on far false u = record { children = ks; there = sym (untouched q r m a old rep.was u far) ∙ (ap (at r) (sym (is_put q m a old new rep)) ∙ there); same = refl }
      on far true u =
          let y = way_from r q u in
          let v = fork_above r y.branch y.rest old m (ap (λ z. at z old) (sym y.is) ∙ rep.was) in
          let now : at r new ≡ Some (Forked v.state (put_child y.branch y.rest a v.children)) =
          ap (at r) (is_put q m a old new rep) ∙ (ap (λ z. at r (put z a old)) y.is ∙ with_split r (y.branch ∷ y.rest) a old (Forked v.state v.children) v.there) in
          let parts = fork_parts o no_channel l v.state ks (put_child y.branch y.rest a v.children) (sym there ∙ now) in
          let was : at r old ≡ Some (Forked l v.children) = v.there ∙ ap (λ z. Some (Forked z v.children)) (sym parts.0) in
          record { children = v.children; there = was; same = stays r l v.children ks u was there }

  -- as many children of it go on, where what is in the place goes on as before
  pub as_many : goes a ≡ goes m → (r : List ℕ) (l : S) (ks : Nodes S) → at r new ≡ Some (Forked l ks) → Was going_of r l ks
  as_many same = carried going_of as_before
    where
      equal : (x y g h : ℕ) → x + g ≡ y + h → g ≡ h → x ≡ y
      equal x y g h e f = omega (arith, e, f)

      on : (r : List ℕ) (b : ℕ) (t : List ℕ) (l : S) (ks js : Nodes S) → q ≡ r ++ b ∷ t → at r old ≡ Some (Forked l ks) → at r new ≡ Some (Forked l js) → going_of js ≡ going_of ks
      on r b [] l ks js e was is = equal (going_of js) (going_of ks) (bit (goes m)) (bit (goes a)) ((running_follow o).right_above old new m a r b l ks js (subst (λ z. IsReplaced z m a old new) e rep) was is) (ap bit (sym same))
      on r b (d ∷ t) l ks js e was is = (running_follow o).further_above old new m a r b d t l ks js (subst (λ z. IsReplaced z m a old new) e rep) was is

      as_before : (r : List ℕ) (l : S) (ks js : Nodes S) → is_above r q ≡ true → at r old ≡ Some (Forked l ks) → at r new ≡ Some (Forked l js) → going_of js ≡ going_of ks
      as_before r l ks js u was is = let y = way_from r q u in on r y.branch y.rest l ks js y.is was is
