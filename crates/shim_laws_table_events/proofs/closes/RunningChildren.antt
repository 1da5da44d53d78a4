-- How many children of each fork go on, where a process that went on does so no more.
use Rattle.std.proofs.Common.{◌≡◌, ◌≢◌, ◌⊎◌, ◌+◌, ◌<◌, ℕ, suc, Bool, true, false, Option, Some, List, [], ◌∷◌, ◌++◌, length, inl, inr, refl, sym, ap, subst, ◌∙◌, arith}
use Rattle.std.proofs.lemmas.List.{length-append}
use Rattle.shim_base.specs.Paths.{Path, Channel}
use Rattle.shim_local.specs.Process.{Ops}
use Rattle.shim_semantics.specs.Nodes.{Node, Nodes, Forked, goes}
use Rattle.shim_semantics.specs.Places.{at, child_at}
use Rattle.shim_semantics.proofs.HowMany.{clash}
use Rattle.shim_semantics.proofs.ReplacedNodes.{put, put_child}
use Rattle.shim_laws_table.specs.NodeStatus.{ProcessStatus, forks, seen, is_leaf, place, how_many_nodes, IsAside}
use Rattle.shim_laws_table.specs.Agrees.{RecordView, Has, Represents}
use Rattle.shim_laws_table.specs.Places.{IsReplaced}
use Rattle.shim_laws_table.specs.Counts.{bit, going_of}
use Rattle.shim_laws_table.specs.Tallied.{is_above}
use Rattle.shim_laws_table.specs.Updating.{AreLinked}
use Rattle.shim_laws_table.proofs.Aside.{at_split}
use Rattle.shim_laws_table.proofs.Begun.{fork_parts}
use Rattle.shim_laws_table.proofs.Hanging.{tied}
use Rattle.shim_laws_table.proofs.Linked.{running_follow}
use Rattle.shim_laws_table.proofs.OneChange.{one_state}
use Rattle.shim_laws_table.proofs.SameTrees.{aside_or_further, is_put, seen_status, fork_count, child_counted}
use Rattle.shim_laws_table.proofs.PlacesAbove.{way_from, fork_above, with_split, untouched, leaf_no_fork, above_its_own}

no_channel : Channel
no_channel = record { home = []; serial = 0 }

-- no path is another one by one branch and by more
too_long : (r : List ℕ) (b d e : ℕ) (t : List ℕ) → r ++ b ∷ d ∷ t ≡ r ++ e ∷ [] → ⊥
too_long r b d e t h =
    let x = length-append r (b ∷ d ∷ t) in
    let y = length-append r (e ∷ []) in
    longer (length r) (length t) (length (r ++ b ∷ d ∷ t)) (length (r ++ e ∷ [])) x y (ap length h)
  where
    longer : (r t x y : ℕ) → x ≡ r + suc (suc t) → y ≡ r + 1 → x ≡ y → ⊥
    longer r t x y e f g = omega (arith, e, f, g)

module _ {S : Type 0} (o : Ops S) (rp : Path) (states : List S) (old_views : List RecordView) (up : ℕ → Option ℕ) (old new m a : Node S) (i f : ℕ) (l : S) (k : ProcessStatus) (shown : Represents o rp states old_views old) (linked : AreLinked states old_views up)
    (has : Has states old_views i f l k) (rep : IsReplaced (place o rp l) m a old new) (leaf : is_leaf a ≡ true) (went : goes m ≡ true) (stays : goes a ≡ false) where
  abbrev q : List ℕ
  q = place o rp l

  -- of the parent one less goes on, and of each other fork as many as before
  pub record Goes (j : ℕ) (s u : S) (ks : Nodes S) : Type 0 where
    pub children : Nodes S
    pub there : at (place o rp s) old ≡ Some (Forked u children)
    pub so_many : ((up i ≡ Some j) × (going_of ks + 1 ≡ going_of children)) ⊎ ((up i ≢ Some j) × (going_of ks ≡ going_of children))

  -- the place of its parent
  from_parent : (j d w : ℕ) (s : S) → Has states old_views j d s (forks w) → up i ≡ Some j → (b : ℕ) × (q ≡ place o rp s ++ b ∷ [])
  from_parent j d w s fork e =
      let y = tied o rp states old_views old shown up linked i f j l k has e in
      let b = y.0 in
      let same : b.parent ≡ s = one_state states old_views j b.first d b.parent s (forks b.many) (forks w) (subst (λ z. Has states old_views z b.first b.parent (forks b.many)) y.1 b.has) fork in
      (b.branch, b.is ∙ ap (λ z. place o rp z ++ b.branch ∷ []) same)

  is_parent : (j d w b : ℕ) (s u : S) (ks : Nodes S) → Has states old_views j d s (forks w) → at (place o rp s) old ≡ Some (Forked u ks) → b < how_many_nodes ks → q ≡ place o rp s ++ b ∷ [] → up i ≡ Some j
  is_parent j d w b s u ks fork there less e =
      let many : how_many_nodes ks ≡ w = fork_count (how_many_nodes ks) w (seen_status (Forked u ks) s (forks w) (ap seen (sym there) ∙ shown.agrees.shown j d s (forks w) fork)) in
      let within : b < w = subst (λ z. b < z) many less in
      let z = shown.agrees.below j d w s fork b within in
      let same : d + b ≡ i = shown.agrees.apart (d + b) i z.0 f z.1 l z.2 k z.3 has (z.4 ∙ sym e) in
      ap up (sym same) ∙ linked.parents j d w s fork b within

  one_more : (x y : ℕ) (g h : Bool) → g ≡ true → h ≡ false → x + bit g ≡ y + bit h → x + 1 ≡ y
  one_more x y true true e h w = absurd cc
  one_more x y true false e h w = omega (arith, w)
  one_more x y false h e f w = absurd cc

  pub still_go : (j d w : ℕ) (s u : S) (ks : Nodes S) → Has states old_views j d s (forks w) → at (place o rp s) new ≡ Some (Forked u ks) → Goes j s u ks
  still_go j d w s u ks fork there = elim (aside_or_further q (place o rp s)) [
    | inr x ↦ leaf_no_fork x.0 a u ks leaf (sym (at_split q x.0 new a rep.is) ∙ (ap (λ z. at z new) (sym x.1) ∙ there))
    | inl far ↦ on far (is_above (place o rp s) q) refl
  ]
    where
      by_rest : (b : ℕ) (rest : List ℕ) (js : Nodes S) → q ≡ place o rp s ++ b ∷ rest → at (place o rp s) old ≡ Some (Forked u js) → child_at b rest js ≡ Some m → ((up i ≡ Some j) × (going_of ks + 1 ≡ going_of js)) ⊎ ((up i ≢ Some j) × (going_of ks ≡ going_of js))
      by_rest b [] js e was child = inl (
        is_parent j d w b s u js fork was (child_counted b [] js m child) e,
        one_more (going_of ks) (going_of js) (goes m) (goes a) went stays ((running_follow o).right_above old new m a (place o rp s) b u js ks (subst (λ z. IsReplaced z m a old new) e rep) was there),
      )
      by_rest b (c ∷ t) js e was child = inr (
        (λ above. let y = from_parent j d w s fork above in too_long (place o rp s) b c y.0 t (sym e ∙ y.1)),
        (running_follow o).further_above old new m a (place o rp s) b c t u js ks (subst (λ z. IsReplaced z m a old new) e rep) was there,
      )

      on : IsAside (place o rp s) q → (b : Bool) → is_above (place o rp s) q ≡ b → Goes j s u ks
      on far false above = record {
        children = ks;
        there = sym (untouched q (place o rp s) m a old rep.was above far) ∙ (ap (at (place o rp s)) (sym (is_put q m a old new rep)) ∙ there);
        so_many = inr ((λ e. let y = from_parent j d w s fork e in clash (is_above (place o rp s) q) (ap (is_above (place o rp s)) y.1 ∙ above_its_own (place o rp s) y.0) above), refl);
      }
      on far true above =
          let y = way_from (place o rp s) q above in
          let v = fork_above (place o rp s) y.branch y.rest old m (ap (λ z. at z old) (sym y.is) ∙ rep.was) in
          let now : at (place o rp s) new ≡ Some (Forked v.state (put_child y.branch y.rest a v.children)) =
          ap (at (place o rp s)) (is_put q m a old new rep)
          ∙ (ap (λ z. at (place o rp s) (put z a old)) y.is ∙ with_split (place o rp s) (y.branch ∷ y.rest) a old (Forked v.state v.children) v.there) in
          let parts = fork_parts o no_channel u v.state ks (put_child y.branch y.rest a v.children) (sym there ∙ now) in
          let was : at (place o rp s) old ≡ Some (Forked u v.children) = v.there ∙ ap (λ z. Some (Forked z v.children)) (sym parts.0) in
          record { children = v.children; there = was; so_many = by_rest y.branch y.rest v.children y.is was v.child }
