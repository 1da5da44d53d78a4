-- Links between forks and children, and how many of a fork's children go on.
use Rattle.std.proofs.Common.{◌≡◌, ◌<◌, ℕ, zero, suc, ◌+◌, Some, List, [], ◌∷◌, ◌++◌, length, if◌then◌else◌, inl, inr, refl, sym, ap, subst, ◌∙◌}
use Rattle.shim_base.specs.Paths.{Channel}
use Rattle.shim_local.specs.Process.{Ops}
use Rattle.shim_semantics.specs.Nodes.{Node, Nodes, Live, Forked, Ended, Dead, no_node, node_and, state, goes}
use Rattle.shim_semantics.specs.Places.{at, child_at}
use Rattle.shim_semantics.proofs.ReplacedNodes.{put, put_child}
use Rattle.shim_base.proofs.Facts.{some_same}
use Rattle.shim_laws_table.specs.NodeStatus.{ProcessStatus, forks, process_status}
use Rattle.shim_laws_table.specs.Agrees.{RecordView, free, used, Has}
use Rattle.shim_laws_table.specs.Places.{IsReplaced}
use Rattle.shim_laws_table.specs.Counts.{bit, going_of}
use Rattle.shim_laws_table.specs.Links.{LinksFollow, RunningFollow}
use Rattle.shim_laws_table.proofs.SameTrees.{same_or_not, is_put, no_fork, fork_count}
use Rattle.shim_laws_table.proofs.OneChange.{one_status}
use Rattle.shim_laws_table.proofs.Tallies.{count_changed}
use Rattle.shim_laws_table.proofs.PlacesAbove.{with_split, fork_above}
use Rattle.shim_laws_table.proofs.Begun.{fork_parts, lives_no_fork}

-- which number the first child has
abbrev first_of : ℕ → RecordView → ℕ
first_of d free = d
first_of d (used f k) = f

one_first : {S : Type 0} (states : List S) (views : List RecordView) (i f g : ℕ) (s t : S) (k h : ProcessStatus) → Has states views i f s k → Has states views i g t h → f ≡ g
one_first states views i f g s t k h a b = ap (first_of f) (some_same (used f k) (used g h) (sym a.view_is ∙ b.view_is))

module _ {S : Type 0} (o : Ops S) where
  pub links_follow : LinksFollow o
  links_follow = record {
    changed = λ before behind old_views views i a up leaf changed linked. record {
      parents = λ j d n s has b less. elim (same_or_not j i) [
        | inl w ↦ no_fork a n leaf (sym (one_status behind views j d changed.first s (state a) (forks n) (process_status a) has (subst (λ z. Has behind views z changed.first (state a) (process_status a)) (sym w) changed.mine)))
        | inr w ↦ linked.parents j d n s (changed.only j d s (forks n) w has) b less
      ];
      top = linked.top;
    };
    closed = λ before behind old_views views i g n a up leaf closed linked. record {
      parents = λ j d m s has b less. elim (closed.only j d s (forks m) has) [
        | inl w ↦ no_fork a m leaf (sym w.2)
        | inr w ↦ linked.parents j d m s w.2 b less
      ];
      top = linked.top;
    };
    forked = λ rp before behind old_views views root i f g l p ks up now shown has forked born stay linked. record {
      parents = λ j d n s fork b less. elim (forked.only j d s (forks n) fork) [
        | inl w ↦
            let first : d ≡ g = one_first behind views j d g s p (forks n) (forks (length ks)) fork (subst (λ z. Has behind views z g p (forks (length ks))) (sym w.0) forked.parent) in
            (λ t. now (first t + b)) ∙ (born b (subst (λ z. b < z) (fork_count n (length ks) w.2) less) ∙ ap Some (sym w.0))
        | inr (inl w) ↦ lives_no_fork o n (forks n) w.3 refl
        | inr (inr w) ↦
            let z = shown.agrees.below j d n s w.1 b less in
            stay (d + b) z.0 z.1 z.2 z.3 ∙ linked.parents j d n s w.1 b less
      ];
      top = let r = shown.rooted in stay 0 r.first r.state r.status r.has ∙ linked.top;
    };
  }

  goes_put : (d : ℕ) (t : List ℕ) (a k : Node S) → goes (put (d ∷ t) a k) ≡ goes k
  goes_put d t a (Live l) = refl
  goes_put d t a (Forked l ks) = refl
  goes_put d t a (Ended l) = refl
  goes_put d t a (Dead l x) = refl

  goes_below : (b d : ℕ) (t : List ℕ) (a : Node S) (ks : Nodes S) → going_of (put_child b (d ∷ t) a ks) ≡ going_of ks
  goes_below b d t a no_node = refl
  goes_below zero d t a (node_and k ks) = ap (λ g. if g then suc (going_of ks) else going_of ks) (goes_put d t a k)
  goes_below (suc b) d t a (node_and k ks) = ap (λ n. if goes k then suc n else n) (goes_below b d t a ks)

  -- the children of a fork right above a place or further up, before and after
  children_put : (r : List ℕ) (b : ℕ) (t : List ℕ) (m a old new : Node S) (l : S) (ks js : Nodes S) → IsReplaced (r ++ b ∷ t) m a old new → at r old ≡ Some (Forked l ks) → at r new ≡ Some (Forked l js) → (js ≡ put_child b t a ks) × (child_at b t ks ≡ Some m)
  children_put r b t m a old new l ks js rep e f =
      let now = with_split r (b ∷ t) a old (Forked l ks) e in
      let x = fork_above r b t old m rep.was in
      let parts = fork_parts o no_channel x.state l x.children ks (sym x.there ∙ e) in
      ((fork_parts o no_channel l l js (put_child b t a ks) (sym f ∙ (ap (at r) (is_put (r ++ b ∷ t) m a old new rep) ∙ now))).1, ap (child_at b t) (sym parts.1) ∙ x.child)
    where
      no_channel : Channel
      no_channel = record { home = []; serial = 0 }

  pub running_follow : RunningFollow o
  running_follow = record {
    right_above = λ old new m a r b l ks js rep e f.
        let w = children_put r b [] m a old new l ks js rep e f in
        ap (λ z. going_of z + bit (goes m)) w.0 ∙ count_changed goes b [] ks m a w.1;
    further_above = λ old new m a r b d t l ks js rep e f.
        let w = children_put r b (d ∷ t) m a old new l ks js rep e f in
        ap going_of w.0 ∙ goes_below b d t a ks;
  }
