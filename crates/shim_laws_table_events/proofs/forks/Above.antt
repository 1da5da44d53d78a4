-- Where another node is in a place, each fork above it was one before, and each fork aside of it is as it was.
use Rattle.std.proofs.Common.{◌≡◌, ℕ, ◌+◌, true, false, Some, List, [], ◌∷◌, ◌++◌, sym, ap, subst, ◌∙◌, arith}
use Rattle.shim_base.specs.Paths.{Channel}
use Rattle.shim_local.specs.Process.{Ops}
use Rattle.shim_semantics.specs.Nodes.{Node, Nodes, Forked, goes}
use Rattle.shim_semantics.specs.Places.{at}
use Rattle.shim_semantics.proofs.ReplacedNodes.{put, put_child}
use Rattle.shim_laws_table.specs.NodeStatus.{IsAside}
use Rattle.shim_laws_table.specs.Places.{IsReplaced}
use Rattle.shim_laws_table.specs.Counts.{going_of, bit}
use Rattle.shim_laws_table.specs.Tallied.{is_above}
use Rattle.shim_laws_table.proofs.SameTrees.{is_put}
use Rattle.shim_laws_table.proofs.PlacesAbove.{way_from, fork_above, with_split, untouched}
use Rattle.shim_laws_table.proofs.Begun.{fork_parts}
use Rattle.shim_laws_table.proofs.Linked.{running_follow}

no_channel : Channel
no_channel = record { home = []; serial = 0 }

module _ {S : Type 0} (o : Ops S) (q : List ℕ) (m a old new : Node S) (rep : IsReplaced q m a old new) where
  -- a fork above was there with other children
  pub fork_was : (r : List ℕ) (l : S) (ks : Nodes S) → is_above r q ≡ true → at r new ≡ Some (Forked l ks) → (js : Nodes S) × (at r old ≡ Some (Forked l js))
  fork_was r l ks above there =
      let y = way_from r q above in
      let v = fork_above r y.branch y.rest old m (ap (λ z. at z old) (sym y.is) ∙ rep.was) in
      let now : at r new ≡ Some (Forked v.state (put_child y.branch y.rest a v.children)) =
      ap (at r) (is_put q m a old new rep) ∙ (ap (λ z. at r (put z a old)) y.is ∙ with_split r (y.branch ∷ y.rest) a old (Forked v.state v.children) v.there) in
      (v.children, v.there ∙ ap (λ z. Some (Forked z v.children)) (sym (fork_parts o no_channel l v.state ks (put_child y.branch y.rest a v.children) (sym there ∙ now)).0))

  pub same_aside : (r : List ℕ) → is_above r q ≡ false → IsAside r q → at r new ≡ at r old
  same_aside r above far = ap (at r) (is_put q m a old new rep) ∙ untouched q r m a old rep.was above far

  -- so many children of a fork above go on as before, where what is in the place goes on as before
  pub as_many_go : goes a ≡ goes m → (r : List ℕ) (l : S) (ks js : Nodes S) → is_above r q ≡ true → at r old ≡ Some (Forked l ks) → at r new ≡ Some (Forked l js) → going_of js ≡ going_of ks
  as_many_go same r l ks js above was is = let y = way_from r q above in on y.branch y.rest y.is
    where
      equal : (i j g h : ℕ) → i + g ≡ j + h → g ≡ h → i ≡ j
      equal i j g h e f = omega (arith, e, f)

      on : (b : ℕ) (t : List ℕ) → q ≡ r ++ b ∷ t → going_of js ≡ going_of ks
      on b [] e = equal (going_of js) (going_of ks) (bit (goes m)) (bit (goes a)) ((running_follow o).right_above old new m a r b l ks js (subst (λ z. IsReplaced z m a old new) e rep) was is) (ap bit (sym same))
      on b (d ∷ t) e = (running_follow o).further_above old new m a r b d t l ks js (subst (λ z. IsReplaced z m a old new) e rep) was is
