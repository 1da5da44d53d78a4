-- What the way up from a closed fork leaves: all labels are those of the new tree.
use Rattle.std.proofs.Common.{◌≡◌, ◌≢◌, ◌≤◌, ◌<◌, ℕ, suc, ◌+◌, Bool, true, false, ◌&&◌, Option, Some, None, List, [], ◌∷◌, ◌++◌, cond, length, inl, inr, refl, sym, ap, subst, ◌∙◌, arith}
use Rattle.std.specs.Prelude.{eqb}
use Rattle.std.proofs.lemmas.Bool.{eq-eqb}
use Rattle.std.proofs.lemmas.List.{append_assoc, append-nil}
use Rattle.shim_base.specs.Paths.{Path, Channel}
use Rattle.shim_local.specs.Process.{Ops}
use Rattle.shim_local.specs.Laws.{LocalLaws}
use Rattle.shim_semantics.specs.Nodes.{Node, Nodes, Live, Forked, Ended, Dead, no_node, node_and, state}
use Rattle.shim_semantics.specs.Places.{at, child_at}
use Rattle.shim_semantics.proofs.ReplacedNodes.{put, put_child}
use Rattle.shim_semantics.proofs.Replaced.{sound_at}
use Rattle.shim_semantics.proofs.PoisonsListed.{at_child as child_there}
use Rattle.shim_base.proofs.Facts.{none_some}
use Rattle.shim_laws_table.specs.NodeStatus.{ProcessStatus, forks, seen, process_status, place, how_many_nodes}
use Rattle.shim_laws_table.specs.Agrees.{RecordView, used, Has, Represents}
use Rattle.shim_laws_table.specs.Places.{IsReplaced}
use Rattle.shim_laws_table.specs.Counts.{Tally}
use Rattle.shim_laws_table.specs.Tallied.{is_above, HaveCounts}
use Rattle.shim_laws_table.specs.Updating.{AreLinked}
use Rattle.shim_laws_table.specs.Dooms.{lesser, min_dead_label, min_dead_label_among}
use Rattle.shim_laws_table.specs.LoweredLabels.{Labelled, LabelsOnTheWay}
use Rattle.shim_laws_table.specs.Recomputing.{read_label, read_record, label_at, min_label_among, NoneUncounted, IsReadOff, Recomputed, all_the_way, at_the_root, uncounted, as_before, recomputes, LabelsRecomputed}
use Rattle.shim_laws_table.proofs.SameTrees.{same_or_not, is_put, seen_state, seen_status, child_counted, fork_count}
use Rattle.shim_laws_table.proofs.OneChange.{one_state}
use Rattle.shim_laws_table.proofs.PlacesAbove.{way_from, not_above_itself, above_its_own, above_same, with_split, fork_above}
use Rattle.shim_laws_table.proofs.Begun.{fork_parts}
use Rattle.shim_laws_table.proofs.MinLabels.{min_labels_decide, min_labels_follow, shared_not_below, child_sound}
use Rattle.shim_laws_table.proofs.Hanging.{HasParent, tied, topmost, counts_share, declared, none_above}
use Rattle.shim_laws_table.proofs.LabelsLowering.{not_above_root, shorter, too_long}

-- ---- one fork's label, read off its children

module _ {S : Type 0} (o : Ops S) (c : Channel) (records : List S) (views : List RecordView) (labels : ℕ → Option ℕ) where
  read_all : (ks : Nodes S) (g : ℕ) → ((b : ℕ) (k : Node S) → child_at b [] ks ≡ Some k → label_at o c records views labels (g + b) ≡ min_dead_label o c k) → min_label_among o c records views labels g (how_many_nodes ks) ≡ min_dead_label_among o c ks
  read_all no_node g f = refl
  read_all (node_and k ks) g f =
      let here : g + 0 ≡ g = omega arith in
      (λ i. lesser ((ap (label_at o c records views labels) (sym here) ∙ f 0 k refl) i) (read_all ks (g + 1) (λ b j e. ap (label_at o c records views labels) (next g b) ∙ f (suc b) j e) i))
    where
      next : (g b : ℕ) → g + 1 + b ≡ g + suc b
      next g b = omega arith

  -- what is read of a record of a node
  read_one : (i f : ℕ) (k : Node S) → Has records views i f (state k) (process_status k) → ((l : S) (js : Nodes S) → k ≡ Forked l js → labels i ≡ min_dead_label_among o c js) → label_at o c records views labels i ≡ min_dead_label o c k
  read_one i f k h forked = (λ t. read_record o c (h.state_is t) (h.view_is t) (labels i)) ∙ by_status k forked
    where
      by_status : (k : Node S) → ((l : S) (js : Nodes S) → k ≡ Forked l js → labels i ≡ min_dead_label_among o c js) → read_label o c (state k) (process_status k) (labels i) ≡ min_dead_label o c k
      by_status (Live l) g = refl
      by_status (Forked l js) g = g l js refl
      by_status (Ended l) g = refl
      by_status (Dead l d) g = refl

module _ {S : Type 0} (o : Ops S) (law : LocalLaws o) (rp : Path) (records : List S) (views : List RecordView) (c : Channel) (new : Node S) (counts : ℕ → Option Tally) (shown : Represents o rp records views new) (have : HaveCounts o rp records views c counts new) where
  module _ (labels : ℕ → Option ℕ) (empty : NoneUncounted counts labels) (i g n : ℕ) (s l : S) (ks : Nodes S) (has : Has records views i g s (forks n)) (there : at (place o rp s) new ≡ Some (Forked l ks)) (shares : o.shares l c ≡ true)
      (right : (b f m : ℕ) (t u : S) (js : Nodes S) → b < n → Has records views (g + b) f t (forks m) → counts (g + b) ≢ None → at (place o rp t) new ≡ Some (Forked u js) → labels (g + b) ≡ min_dead_label_among o c js) where
    many : how_many_nodes ks ≡ n
    many = fork_count (how_many_nodes ks) n (seen_status (Forked l ks) s (forks n) (sym (ap seen there) ∙ shown.agrees.shown i g s (forks n) has))

    child : (b : ℕ) (k : Node S) → child_at b [] ks ≡ Some k → label_at o c records views labels (g + b) ≡ min_dead_label o c k
    child b k e =
        let less = child_counted b [] ks k e in
        let z = shown.agrees.below i g n s has b (omega (arith, less, many)) in
        let at_k : at (place o rp z.1) new ≡ Some k = ap (λ p. at p new) z.4 ∙ (child_there (place o rp s) b new l ks there ∙ e) in
        let see : seen (Some k) ≡ Some (z.1, z.2) = sym (ap seen at_k) ∙ shown.agrees.shown (g + b) z.0 z.1 z.2 z.3 in
        let state_is = seen_state k z.1 z.2 see in
        let status_is = seen_status k z.1 z.2 see in
        let its : Has records views (g + b) z.0 (state k) (process_status k) = record { state_is = z.3.state_is ∙ ap Some (sym state_is); view_is = z.3.view_is ∙ ap (λ x. Some (used z.0 x)) (sym status_is) } in
        read_one o c records views labels (g + b) z.0 k its
        (λ u js is. forked b k e (omega (arith, less, many)) z.0 z.1 its at_k u js is state_is)
      where
        forked : (b : ℕ) (k : Node S) → child_at b [] ks ≡ Some k → b < n → (f : ℕ) (t : S) → Has records views (g + b) f (state k) (process_status k) → at (place o rp t) new ≡ Some k → (u : S) (js : Nodes S) → k ≡ Forked u js → state k ≡ t → labels (g + b) ≡ min_dead_label_among o c js
        forked b k e less f t its at_k u js is same = on (counts (g + b)) refl
          where
            has' : Has records views (g + b) f u (forks (how_many_nodes js))
            has' = record { state_is = its.state_is ∙ ap (λ z. Some (state z)) is; view_is = its.view_is ∙ ap (λ z. Some (used f (process_status z))) is }

            at_u : at (place o rp u) new ≡ Some (Forked u js)
            at_u = ap (λ z. at (place o rp z) new) (sym (ap state is) ∙ same) ∙ (at_k ∙ ap Some is)

            on : (x : Option Tally) → counts (g + b) ≡ x → labels (g + b) ≡ min_dead_label_among o c js
            on (Some y) w = right b f (how_many_nodes js) u u js less has' (λ z. none_some y (sym z ∙ w)) at_u
            on None w =
                let sound = sound_at o (place o rp s) new (Forked l ks) shown.sound.below there in
                let v = child_sound o l sound.number 0 b ks k sound.children e in
                empty (g + b) w ∙ sym ((min_labels_decide o law).uncounted new (place o rp u) u js c shown.sound at_u
                (λ x r h. shared_not_below o new (place o rp s) (Forked l ks) c shown.sound there shares (sound.number, v.1) (x ∷ r) (h ∙ (ap (λ z. o.path (state z) ++ x ∷ r) (sym is) ∙ v.2 (x ∷ r))))
                (λ counted. (have (g + b) f (how_many_nodes js) u u js has' at_u).1 counted w))

    pub read_off : min_label_among o c records views labels g n ≡ min_dead_label_among o c ks
    read_off = ap (min_label_among o c records views labels g) (sym many) ∙ read_all o c records views labels ks g child

-- ---- the way up

module _ {S : Type 0} (o : Ops S) (law : LocalLaws o) (rp : Path) (records : List S) (views : List RecordView) (up : ℕ → Option ℕ) (c : Channel) (old new m a : Node S) (q : List ℕ) (counts : ℕ → Option Tally)
    (shown : Represents o rp records views new) (linked : AreLinked records views up) (rep : IsReplaced q m a old new) (have : HaveCounts o rp records views c counts new) where
  abbrev On : (ℕ → Option ℕ) → List ℕ → Type 0
  On labels p = LabelsOnTheWay o rp records views c counts labels old new p

  abbrev Done : (ℕ → Option ℕ) → Type 0
  Done labels = Labelled o rp records views c counts labels new

  at_top : (labels : ℕ → Option ℕ) (p : List ℕ) → p ≡ [] → On labels p → Done labels
  at_top labels p e way i f n s l ks has counted there = way i f n s l ks has counted (ap (λ d. at (place o rp s) (cond d old new)) (ap (is_above (place o rp s)) e ∙ not_above_root (place o rp s)) ∙ there)

  some_counts : (i : ℕ) → counts i ≢ None → (y : Tally) × (counts i ≡ Some y)
  some_counts i h = on (counts i) refl
    where
      on : (x : Option Tally) → counts i ≡ x → (y : Tally) × (counts i ≡ Some y)
      on None e = absurd (h e)
      on (Some y) e = (y, e)

  cut_off : (labels : ℕ → Option ℕ) (x f : ℕ) (s : S) (k : ProcessStatus) → Has records views x f s k → c.home ≡ o.path s → On labels (place o rp s) → Done labels
  cut_off labels x f s k has home way i d n u l ks fork counted there = on (is_above (place o rp u) (place o rp s)) refl
    where
      on : (b : Bool) → is_above (place o rp u) (place o rp s) ≡ b → labels i ≡ min_dead_label_among o c ks
      on false w = way i d n u l ks fork counted (ap (λ z. at (place o rp u) (cond z old new)) w ∙ there)
      on true w =
          let y = some_counts i counted in
          absurd (none_above o rp records views new shown c x f i d n s u k [] has (home ∙ sym (append-nil (o.path s))) fork w (counts_share o rp records views new shown c counts have i d n u y.0 fork y.1))

  -- the fork of a record on the way, before and after
  pub record ParentAbove (x : ℕ) (s : S) (t : List ℕ) (f : ℕ) (k : ProcessStatus) (j : ℕ) : Type 0 where
    pub below : HasParent o rp records views new shown x f s k
    pub number : below.number ≡ j
    pub split : q ≡ place o rp below.parent ++ below.branch ∷ t
    pub state : S
    pub ks : Nodes S
    pub js : Nodes S
    pub was : at (place o rp below.parent) old ≡ Some (Forked state ks)
    pub is : at (place o rp below.parent) new ≡ Some (Forked state js)

  above_of : (x j f : ℕ) (s : S) (k : ProcessStatus) (t : List ℕ) → Has records views x f s k → up x ≡ Some j → q ≡ place o rp s ++ t → ParentAbove x s t f k j
  above_of x j f s k t has e split =
      let w = tied o rp records views new shown up linked x f j s k has e in
      let b = w.0 in
      let r = place o rp b.parent in
      let far : q ≡ r ++ b.branch ∷ t = split ∙ (ap (λ z. z ++ t) b.is ∙ append_assoc r (b.branch ∷ []) t) in
      let v = fork_above r b.branch t old m (ap (λ z. at z old) (sym far) ∙ rep.was) in
      record {
        below = b;
        number = w.1;
        split = far;
        state = v.state;
        ks = v.children;
        js = put_child b.branch t a v.children;
        was = v.there;
        is = ap (at r) (is_put q m a old new rep) ∙ (ap (λ z. at r (put z a old)) far ∙ with_split r (b.branch ∷ t) a old (Forked v.state v.children) v.there);
      }

  module _ (x j f : ℕ) (s : S) (k : ProcessStatus) (t : List ℕ) (u : ParentAbove x s t f k j) (before : ℕ → Option ℕ) (counted : counts j ≢ None) (empty : NoneUncounted counts before) (way : On before (place o rp s)) where
    abbrev r : List ℕ
    r = place o rp u.below.parent

    pub fork : Has records views j u.below.first u.below.parent (forks u.below.many)
    fork = subst (λ z. Has records views z u.below.first u.below.parent (forks u.below.many)) u.number u.below.has

    its_own : before j ≡ min_dead_label_among o c u.ks
    its_own = way j u.below.first u.below.many u.below.parent u.state u.ks fork counted
        (ap (λ p. at r (cond (is_above r p) old new)) u.below.is ∙ (ap (λ d. at r (cond d old new)) (above_its_own r u.below.branch) ∙ u.was))

    -- its children's labels are those of the tree after
    kids_right : (b d n : ℕ) (v w : S) (js : Nodes S) → b < u.below.many → Has records views (u.below.first + b) d v (forks n) → counts (u.below.first + b) ≢ None → at (place o rp v) new ≡ Some (Forked w js) → before (u.below.first + b) ≡ min_dead_label_among o c js
    kids_right b d n v w js less h is_counted there =
        let z = shown.agrees.below j u.below.first u.below.many u.below.parent fork b less in
        let same : v ≡ z.1 = one_state records views (u.below.first + b) d z.0 v z.1 (forks n) z.2 h z.3 in
        let at_v : place o rp v ≡ r ++ b ∷ [] = ap (place o rp) same ∙ z.4 in
        way (u.below.first + b) d n v w js h is_counted (ap (λ y. at (place o rp v) (cond y old new)) (ap (is_above (place o rp v)) u.below.is ∙ (ap (λ y. is_above y (r ++ u.below.branch ∷ [])) at_v ∙ beside r b u.below.branch)) ∙ there)
      where
        beside : (r : List ℕ) (b d : ℕ) → is_above (r ++ b ∷ []) (r ++ d ∷ []) ≡ false
        beside [] b d = and_nothing (eqb b d)
          where
            and_nothing : (z : Bool) → z && false ≡ false
            and_nothing true = refl
            and_nothing false = refl
        beside (y ∷ r) b d = ap (λ z. z && is_above (r ++ b ∷ []) (r ++ d ∷ [])) (eq-eqb y y refl) ∙ beside r b d

    -- so what is read off them is the fork's label after
    pub fresh : (y : Option ℕ) → IsReadOff o c records views before j y → y ≡ min_dead_label_among o c u.js
    fresh y h =
        let its = counts_share o rp records views new shown c counts have j u.below.first u.below.many u.below.parent (some_counts j counted).0 fork (some_counts j counted).1 in
        let same : u.below.parent ≡ u.state = sym (seen_state (Forked u.state u.js) u.below.parent (forks u.below.many) (sym (ap seen u.is) ∙ shown.agrees.shown j u.below.first u.below.parent (forks u.below.many) fork)) in
        h u.below.first u.below.many u.below.parent fork
        ∙ read_off o law rp records views c new counts shown have before empty j u.below.first u.below.many u.below.parent u.state u.js fork u.is (ap (λ z. o.shares z c) (sym same) ∙ its) kids_right

    replaced_fork : IsReplaced r (Forked u.state u.ks) (Forked u.state u.js) old new
    replaced_fork = record {
      was = u.was;
      is = u.is;
      aside = λ p far. rep.aside p (λ z e. far (u.below.branch ∷ (t ++ z)) (e ∙ (ap (λ w. w ++ z) u.split ∙ append_assoc r (u.below.branch ∷ t) z)));
    }

    kids_same : (l : S) (ks js : Nodes S) → Some (Forked l ks) ≡ Some (Forked u.state js) → min_dead_label_among o c ks ≡ min_dead_label_among o c js
    kids_same l ks js e = ap (min_dead_label_among o c) (fork_parts o c l u.state ks js e).1

    here : (i d n : ℕ) (v l : S) (ks : Nodes S) → Has records views i d v (forks n) → i ≡ j → at (place o rp v) (cond (is_above (place o rp v) r) old new) ≡ Some (Forked l ks) → min_dead_label_among o c ks ≡ min_dead_label_among o c u.js
    here i d n v l ks h w there =
        let same : v ≡ u.below.parent = one_state records views j d u.below.first v u.below.parent (forks n) (forks u.below.many) (subst (λ z. Has records views z d v (forks n)) w h) fork in
        let at_r : place o rp v ≡ r = ap (place o rp) same in
        kids_same l ks u.js (sym there ∙ ((λ e. at (at_r e) (cond (is_above (at_r e) r) old new)) ∙ (ap (λ z. at r (cond z old new)) (not_above_itself r) ∙ u.is)))

    elsewhere : (labels : ℕ → Option ℕ) → ((i : ℕ) → i ≢ j → labels i ≡ before i) → labels j ≡ min_dead_label_among o c u.js → On labels r
    elsewhere labels others mine i d n v l ks h is_counted there = elim (same_or_not i j) [
      | inl w ↦ ap labels w ∙ (mine ∙ sym (here i d n v l ks h w there))
      | inr w ↦
          let far : place o rp v ≢ r = λ e. w (shown.agrees.apart i j d u.below.first v u.below.parent (forks n) (forks u.below.many) h fork e) in
          others i w ∙ way i d n v l ks h is_counted (ap (λ p. at (place o rp v) (cond (is_above (place o rp v) p) old new)) u.below.is ∙ (ap (λ z. at (place o rp v) (cond z old new)) (above_same (place o rp v) r u.below.branch far) ∙ there))
    ]

    pub way_on : (between : ℕ → Option ℕ) → IsReadOff o c records views before j (between j) → ((i : ℕ) → i ≢ j → between i ≡ before i) → On between r
    way_on between off others = elsewhere between others (fresh (between j) off)

    pub done_here : IsReadOff o c records views before j (before j) → Done before
    done_here off =
        let stays : min_dead_label_among o c u.js ≡ min_dead_label_among o c u.ks = sym (fresh (before j) off) ∙ its_own in
        let way' = elsewhere before (λ i w. refl) (fresh (before j) off) in
        λ i d n v l ks h is_counted there. on i d n v l ks h is_counted there stays way' (is_above (place o rp v) r) refl
      where
        on : (i d n : ℕ) (v l : S) (ks : Nodes S) → Has records views i d v (forks n) → counts i ≢ None → at (place o rp v) new ≡ Some (Forked l ks) → min_dead_label_among o c u.js ≡ min_dead_label_among o c u.ks → On before r → (b : Bool) → is_above (place o rp v) r ≡ b → before i ≡ min_dead_label_among o c ks
        on i d n v l ks h is_counted there stays way' false w = way' i d n v l ks h is_counted (ap (λ z. at (place o rp v) (cond z old new)) w ∙ there)
        on i d n v l ks h is_counted there stays way' true w =
            let y = way_from (place o rp v) r w in
            let f' = fork_above (place o rp v) y.branch y.rest old (Forked u.state u.ks) (ap (λ z. at z old) (sym y.is) ∙ u.was) in
            let now : at (place o rp v) new ≡ Some (Forked f'.state (put_child y.branch y.rest (Forked u.state u.js) f'.children)) =
            ap (at (place o rp v)) (is_put r (Forked u.state u.ks) (Forked u.state u.js) old new replaced_fork) ∙ (ap (λ z. at (place o rp v) (put z (Forked u.state u.js) old)) y.is ∙ with_split (place o rp v) (y.branch ∷ y.rest) (Forked u.state u.js) old (Forked f'.state f'.children) f'.there) in
            let same = fork_parts o c l f'.state ks (put_child y.branch y.rest (Forked u.state u.js) f'.children) (sym there ∙ now) in
            let law' = (min_labels_follow o).stays c old new (Forked u.state u.ks) (Forked u.state u.js) r (place o rp v) f'.state f'.children (put_child y.branch y.rest (Forked u.state u.js) f'.children) replaced_fork stays w f'.there now in
            way' i d n v f'.state f'.children h is_counted (ap (λ z. at (place o rp v) (cond z old new)) w ∙ f'.there) ∙ (sym law' ∙ ap (min_dead_label_among o c) (sym same.1))

  go : {n x : ℕ} {before behind : ℕ → Option ℕ} → Recomputed o c records views up counts n before x behind → NoneUncounted counts before → (f : ℕ) (s : S) (k : ProcessStatus) → Has records views x f s k → o.shares s c ≡ true → (t : List ℕ) → q ≡ place o rp s ++ t → length (place o rp s) ≤ n
      → On before (place o rp s) → Done behind
  go (all_the_way before x) empty f s k has shares t split far way = at_top before (place o rp s) (too_long (place o rp s) far) way
  go (at_the_root n before x e) empty f s k has shares t split far way = at_top before (place o rp s) (topmost o rp records views new shown up linked x f s k has e) way
  go (uncounted n before x j e none) empty f s k has shares t split far way =
      let w = tied o rp records views new shown up linked x f j s k has e in
      cut_off before x f s k has (declared o rp records views new shown c counts have law x f s k has shares w.0 (ap counts w.1 ∙ none)) way
  go (as_before n before x j e counted off) empty f s k has shares t split far way = done_here x j f s k t (above_of x j f s k t has e split) before counted empty way off
  go (recomputes n before between behind x j e counted off others rest) empty f s k has shares t split far way =
      let u = above_of x j f s k t has e split in
      let y = some_counts j counted in
      let its = fork x j f s k t u before counted empty way in
      let empty' : NoneUncounted counts between = λ i w. elim (same_or_not i j) [ inl v ↦ absurd (counted (ap counts (sym v) ∙ w)) | inr v ↦ others i v ∙ empty i w ] in
      go rest empty' u.below.first u.below.parent (forks u.below.many) its (counts_share o rp records views new shown c counts have j u.below.first u.below.many u.below.parent y.0 its y.1) (u.below.branch ∷ t) u.split
      (shorter (place o rp s) (place o rp u.below.parent) u.below.branch n u.below.is far) (way_on x j f s k t u before counted empty way between off others)

pub labels_recomputed : {S : Type 0} (o : Ops S) → LocalLaws o → LabelsRecomputed o
labels_recomputed o law rp records views up c old new m a n x f s k counts before behind shown linked has rep shares have empty far way recomputed =
    go o law rp records views up c old new m a (place o rp s) counts shown linked rep have recomputed empty f s k has shares [] (sym (append-nil (place o rp s))) far way
