-- What the way up from a death leaves: all labels are those of the new tree.
use Rattle.std.proofs.Common.{◌≡◌, ◌≢◌, ◌≤◌, ℕ, suc, Bool, true, false, ◌&&◌, Option, Some, None, List, [], ◌∷◌, ◌++◌, cond, length, inl, inr, refl, sym, ap, subst, ◌∙◌, arith}
use Rattle.std.proofs.lemmas.Bool.{eq-eqb}
use Rattle.std.proofs.lemmas.List.{append_assoc, append-nil, length-append}
use Rattle.shim_base.specs.Paths.{Path, Channel}
use Rattle.shim_local.specs.Process.{Ops}
use Rattle.shim_local.specs.Laws.{LocalLaws}
use Rattle.shim_semantics.specs.Nodes.{Node, Nodes, Forked}
use Rattle.shim_semantics.specs.Places.{at}
use Rattle.shim_semantics.proofs.ReplacedNodes.{put, put_child}
use Rattle.shim_laws_table.specs.NodeStatus.{ProcessStatus, forks, place}
use Rattle.shim_laws_table.specs.Agrees.{RecordView, Has, Represents}
use Rattle.shim_laws_table.specs.Places.{IsReplaced}
use Rattle.shim_laws_table.specs.Counts.{Tally}
use Rattle.shim_laws_table.specs.Tallied.{is_above, HaveCounts}
use Rattle.shim_laws_table.specs.Updating.{AreLinked}
use Rattle.shim_laws_table.specs.Dooms.{lesser, min_dead_label, min_dead_label_among}
use Rattle.shim_laws_table.specs.LoweredLabels.{Labelled, LabelsOnTheWay, IsLowered, LoweredAbove, all_the_way, at_the_root, uncounted, as_low, lowers, LabelsLowered}
use Rattle.shim_laws_table.proofs.SameTrees.{same_or_not, is_put}
use Rattle.shim_laws_table.proofs.OneChange.{one_state}
use Rattle.shim_laws_table.proofs.PlacesAbove.{way_from, not_above_itself, above_its_own, above_same, with_split, fork_above}
use Rattle.shim_laws_table.proofs.Begun.{fork_parts}
use Rattle.shim_laws_table.proofs.MinLabels.{min_labels_follow}
use Rattle.shim_laws_table.proofs.Hanging.{HasParent, tied, topmost, counts_share, declared, none_above}

above_further : (r : List ℕ) (b : ℕ) (t : List ℕ) → is_above r (r ++ b ∷ t) ≡ true
above_further [] b t = refl
above_further (x ∷ r) b t = (λ i. eq-eqb x x refl i && above_further r b t i)

pub not_above_root : (r : List ℕ) → is_above r [] ≡ false
not_above_root [] = refl
not_above_root (x ∷ r) = refl

pub shorter : (p r : List ℕ) (b n : ℕ) → p ≡ r ++ b ∷ [] → length p ≤ suc n → length r ≤ n
shorter p r b n e far = let w = ap length e in let v = length-append r (b ∷ []) in let u : length (b ∷ []) ≡ 1 = refl in omega (arith, w, v, u, far)

pub too_long : (p : List ℕ) → length p ≤ 0 → p ≡ []
too_long [] h = refl
too_long (x ∷ p) h = absurd (omega (arith, h))

module _ {S : Type 0} (o : Ops S) (law : LocalLaws o) (rp : Path) (records : List S) (views : List RecordView) (up : ℕ → Option ℕ) (c : Channel) (old new m a : Node S) (q : List ℕ) (counts : ℕ → Option Tally)
    (shown : Represents o rp records views new) (linked : AreLinked records views up) (rep : IsReplaced q m a old new) (clear : min_dead_label o c m ≡ None) (have : HaveCounts o rp records views c counts new) where
  abbrev On : (ℕ → Option ℕ) → List ℕ → Type 0
  On labels p = LabelsOnTheWay o rp records views c counts labels old new p

  abbrev Done : (ℕ → Option ℕ) → Type 0
  Done labels = Labelled o rp records views c counts labels new

  at_top : (labels : ℕ → Option ℕ) (p : List ℕ) → p ≡ [] → On labels p → Done labels
  at_top labels p e way i f n s l ks has counted there = way i f n s l ks has counted (ap (λ d. at (place o rp s) (cond d old new)) (ap (is_above (place o rp s)) e ∙ not_above_root (place o rp s)) ∙ there)

  some_counts : (i : ℕ) → counts i ≢ None → (y : Tally) × (counts i ≡ Some y)
  some_counts i h = on (counts i) refl
    where
      on : (x : Option Tally) → counts i ≡ x → (y : Tally) × (counts i ≡ Some y)
      on None e = absurd (h e)
      on (Some y) e = (y, e)

  -- no fork further up counts the channel
  cut_off : (labels : ℕ → Option ℕ) (x f : ℕ) (s : S) (k : ProcessStatus) → Has records views x f s k → c.home ≡ o.path s → On labels (place o rp s) → Done labels
  cut_off labels x f s k has home way i d n u l ks fork counted there = on (is_above (place o rp u) (place o rp s)) refl
    where
      on : (b : Bool) → is_above (place o rp u) (place o rp s) ≡ b → labels i ≡ min_dead_label_among o c ks
      on false w = way i d n u l ks fork counted (ap (λ z. at (place o rp u) (cond z old new)) w ∙ there)
      on true w =
          let y = some_counts i counted in
          absurd (none_above o rp records views new shown c x f i d n s u k [] has (home ∙ sym (append-nil (o.path s))) fork w (counts_share o rp records views new shown c counts have i d n u y.0 fork y.1))

  -- the fork of a record on the way, before and after
  record ParentAbove (x : ℕ) (s : S) (t : List ℕ) (f : ℕ) (k : ProcessStatus) (j : ℕ) : Type 0 where
    pub below : HasParent o rp records views new shown x f s k
    pub number : below.number ≡ j
    pub split : q ≡ place o rp below.parent ++ below.branch ∷ t
    pub state : S
    pub ks : Nodes S
    pub js : Nodes S
    pub was : at (place o rp below.parent) old ≡ Some (Forked state ks)
    pub is : at (place o rp below.parent) new ≡ Some (Forked state js)
    pub taken_in : min_dead_label_among o c js ≡ lesser (min_dead_label_among o c ks) (min_dead_label o c a)

  above_of : (x j f : ℕ) (s : S) (k : ProcessStatus) (t : List ℕ) → Has records views x f s k → up x ≡ Some j → q ≡ place o rp s ++ t → ParentAbove x s t f k j
  above_of x j f s k t has e split =
      let w = tied o rp records views new shown up linked x f j s k has e in
      let b = w.0 in
      let r = place o rp b.parent in
      let far : q ≡ r ++ b.branch ∷ t = split ∙ (ap (λ z. z ++ t) b.is ∙ append_assoc r (b.branch ∷ []) t) in
      let v = fork_above r b.branch t old m (ap (λ z. at z old) (sym far) ∙ rep.was) in
      let now : at r new ≡ Some (Forked v.state (put_child b.branch t a v.children)) = ap (at r) (is_put q m a old new rep) ∙ (ap (λ z. at r (put z a old)) far ∙ with_split r (b.branch ∷ t) a old (Forked v.state v.children) v.there) in
      record {
        below = b;
        number = w.1;
        split = far;
        state = v.state;
        ks = v.children;
        js = put_child b.branch t a v.children;
        was = v.there;
        is = now;
        taken_in = (min_labels_follow o).taken_in c old new m a q r v.state v.children (put_child b.branch t a v.children) rep clear (ap (is_above r) far ∙ above_further r b.branch t) v.there now;
      }

  module _ (x j f : ℕ) (s : S) (k : ProcessStatus) (t : List ℕ) (u : ParentAbove x s t f k j) (before : ℕ → Option ℕ) (counted : counts j ≢ None) (way : On before (place o rp s)) where
    abbrev r : List ℕ
    r = place o rp u.below.parent

    fork : Has records views j u.below.first u.below.parent (forks u.below.many)
    fork = subst (λ z. Has records views z u.below.first u.below.parent (forks u.below.many)) u.number u.below.has

    its_own : before j ≡ min_dead_label_among o c u.ks
    its_own = way j u.below.first u.below.many u.below.parent u.state u.ks fork counted
        (ap (λ p. at r (cond (is_above r p) old new)) u.below.is ∙ (ap (λ d. at r (cond d old new)) (above_its_own r u.below.branch) ∙ u.was))

    -- aside of the fork's place is aside of the node's
    replaced_fork : IsReplaced r (Forked u.state u.ks) (Forked u.state u.js) old new
    replaced_fork = record {
      was = u.was;
      is = u.is;
      aside = λ p far. rep.aside p (λ z e. far (u.below.branch ∷ (t ++ z)) (e ∙ (ap (λ w. w ++ z) u.split ∙ append_assoc r (u.below.branch ∷ t) z)));
    }

    kids_same : (l : S) (ks js : Nodes S) → Some (Forked l ks) ≡ Some (Forked u.state js) → min_dead_label_among o c ks ≡ min_dead_label_among o c js
    kids_same l ks js e = ap (min_dead_label_among o c) (fork_parts o c l u.state ks js e).1

    -- what is at the fork is what is after
    here : (i d n : ℕ) (v l : S) (ks : Nodes S) → Has records views i d v (forks n) → i ≡ j → at (place o rp v) (cond (is_above (place o rp v) r) old new) ≡ Some (Forked l ks) → min_dead_label_among o c ks ≡ min_dead_label_among o c u.js
    here i d n v l ks h w there =
        let same : v ≡ u.below.parent = one_state records views j d u.below.first v u.below.parent (forks n) (forks u.below.many) (subst (λ z. Has records views z d v (forks n)) w h) fork in
        let at_r : place o rp v ≡ r = ap (place o rp) same in
        kids_same l ks u.js (sym there ∙ ((λ e. at (at_r e) (cond (is_above (at_r e) r) old new)) ∙ (ap (λ z. at r (cond z old new)) (not_above_itself r) ∙ u.is)))

    elsewhere : (labels : ℕ → Option ℕ) → ((i : ℕ) → i ≢ j → labels i ≡ before i) → labels j ≡ min_dead_label_among o c u.js → On labels r
    elsewhere labels others mine i d n v l ks h is_counted there = elim (same_or_not i j) [
      | inl w ↦ ap labels w ∙ (mine ∙ sym (here i d n v l ks h w there))
      | inr w ↦
          let far : place o rp v ≢ r = λ e. w (shown.agrees.apart i j d u.below.first v u.below.parent (forks n) (forks u.below.many) h fork e) in
          others i w ∙ way i d n v l ks h is_counted (ap (λ p. at (place o rp v) (cond (is_above (place o rp v) p) old new)) u.below.is ∙ (ap (λ z. at (place o rp v) (cond z old new)) (above_same (place o rp v) r u.below.branch far) ∙ there))
    ]

    way_on : (behind : ℕ → Option ℕ) → IsLowered before j (min_dead_label o c a) behind → On behind r
    way_on behind low = elsewhere behind low.others (low.new ∙ (ap (λ z. lesser z (min_dead_label o c a)) its_own ∙ sym u.taken_in))

    -- a fork with a label as low: it and all above stay
    done_here : lesser (before j) (min_dead_label o c a) ≡ before j → Done before
    done_here same =
        let stays : min_dead_label_among o c u.js ≡ min_dead_label_among o c u.ks = u.taken_in ∙ (ap (λ z. lesser z (min_dead_label o c a)) (sym its_own) ∙ (same ∙ its_own)) in
        let way' = elsewhere before (λ i w. refl) (its_own ∙ sym stays) in
        λ i d n v l ks h is_counted there. on i d n v l ks h is_counted there stays way' (is_above (place o rp v) r) refl
      where
        on : (i d n : ℕ) (v l : S) (ks : Nodes S) → Has records views i d v (forks n) → counts i ≢ None → at (place o rp v) new ≡ Some (Forked l ks) → min_dead_label_among o c u.js ≡ min_dead_label_among o c u.ks → On before r → (b : Bool) → is_above (place o rp v) r ≡ b → before i ≡ min_dead_label_among o c ks
        on i d n v l ks h is_counted there stays way' false w = way' i d n v l ks h is_counted (ap (λ z. at (place o rp v) (cond z old new)) w ∙ there)
        on i d n v l ks h is_counted there stays way' true w =
            let y = way_from (place o rp v) r w in
            let f' = fork_above (place o rp v) y.branch y.rest old (Forked u.state u.ks) (ap (λ z. at z old) (sym y.is) ∙ u.was) in
            let now : at (place o rp v) new ≡ Some (Forked f'.state (put_child y.branch y.rest (Forked u.state u.js) f'.children)) =
            ap (at (place o rp v)) (is_put r (Forked u.state u.ks) (Forked u.state u.js) old new replaced_fork) ∙ (ap (λ z. at (place o rp v) (put z (Forked u.state u.js) old)) y.is ∙ with_split (place o rp v) (y.branch ∷ y.rest) (Forked u.state u.js) old (Forked f'.state f'.children) f'.there) in
            let same = fork_parts o c l f'.state ks (put_child y.branch y.rest (Forked u.state u.js) f'.children) (sym there ∙ now) in
            let law' = (min_labels_follow o).stays c old new (Forked u.state u.ks) (Forked u.state u.js) r (place o rp v) f'.state f'.children (put_child y.branch y.rest (Forked u.state u.js) f'.children) replaced_fork stays w f'.there now in
            way' i d n v f'.state f'.children h is_counted (ap (λ z. at (place o rp v) (cond z old new)) w ∙ f'.there) ∙ (sym law' ∙ ap (min_dead_label_among o c) (sym same.1))

  go : {n x : ℕ} {before behind : ℕ → Option ℕ} → LoweredAbove up counts (min_dead_label o c a) n before x behind → (f : ℕ) (s : S) (k : ProcessStatus) → Has records views x f s k → o.shares s c ≡ true → (t : List ℕ) → q ≡ place o rp s ++ t → length (place o rp s) ≤ n
      → On before (place o rp s) → Done behind
  go (all_the_way before x) f s k has shares t split far way = at_top before (place o rp s) (too_long (place o rp s) far) way
  go (at_the_root n before x e) f s k has shares t split far way = at_top before (place o rp s) (topmost o rp records views new shown up linked x f s k has e) way
  go (uncounted n before x j e none) f s k has shares t split far way =
      let w = tied o rp records views new shown up linked x f j s k has e in
      cut_off before x f s k has (declared o rp records views new shown c counts have law x f s k has shares w.0 (ap counts w.1 ∙ none)) way
  go (as_low n before x j e counted same) f s k has shares t split far way = done_here x j f s k t (above_of x j f s k t has e split) before counted way same
  go (lowers n before between behind x j e counted low rest) f s k has shares t split far way =
      let u = above_of x j f s k t has e split in
      let y = some_counts j counted in
      let its = fork x j f s k t u before counted way in
      go rest u.below.first u.below.parent (forks u.below.many) its (counts_share o rp records views new shown c counts have j u.below.first u.below.many u.below.parent y.0 its y.1) (u.below.branch ∷ t) u.split
      (shorter (place o rp s) (place o rp u.below.parent) u.below.branch n u.below.is far) (way_on x j f s k t u before counted way between low)

pub labels_lowered : {S : Type 0} (o : Ops S) → LocalLaws o → LabelsLowered o
labels_lowered o law rp records views up c old new m a n x f s k counts before behind shown linked has rep clear shares have far way is_lowered =
    go o law rp records views up c old new m a (place o rp s) counts shown linked rep clear have is_lowered f s k has shares [] (sym (append-nil (place o rp s))) far way
