-- A live process has ended or died, and all above was brought up to date: the records keep all that they kept.
use Rattle.std.proofs.Common.{◌≡◌, ◌≢◌, ◌≤◌, ◌+◌, ◌-◌, ℕ, zero, Bool, true, false, cond, Some, None, List, [], ◌∷◌, ◌++◌, map, length, inl, inr, refl, sym, ap, subst, ◌∙◌, arith}
use Rattle.std.specs.Prelude.{slice_get, slice_set}
use Rattle.std.specs.Option.{option_map}
use Rattle.shim_base.specs.Paths.{Path, Channel}
use Rattle.shim_base.proofs.Facts.{some_same, none_some}
use Rattle.shim_local.specs.Process.{Ops}
use Rattle.shim_local.specs.Laws.{LocalLaws}
use Rattle.shim_semantics.specs.Nodes.{Node, Nodes, Live, Forked, state, goes}
use Rattle.shim_semantics.specs.Acts.{Acted, Effects, act_live}
use Rattle.shim_semantics.specs.Places.{at}
use Rattle.shim_semantics.proofs.HowMany.{clash}
use Rattle.shim_semantics.proofs.Replaced.{sound_at}
use Rattle.shim_semantics.proofs.ReplacedNodes.{put, put_child}
use Rattle.shim_laws_table.specs.NodeStatus.{ProcessStatus, lives, forks, process_status, is_leaf, place, IsAside}
use Rattle.shim_laws_table.specs.Agrees.{RecordView, used, Has, Represents}
use Rattle.shim_laws_table.specs.Places.{IsReplaced}
use Rattle.shim_laws_table.specs.Changes.{HasChanged}
use Rattle.shim_laws_table.specs.Counts.{ChildStatus as Read, going_of, bit}
use Rattle.shim_laws_table.specs.Tallied.{Tallied, OnTheWay, HaveCounts, is_above}
use Rattle.shim_laws_table.specs.Updating.{AreLinked, AreAtMost}
use Rattle.shim_laws_table.specs.Dooms.{min_dead_label, min_dead_label_among}
use Rattle.shim_laws_table.specs.LoweredLabels.{Labelled, LabelsOnTheWay, LoweredAbove}
use Rattle.shim_laws_table.proofs.Aside.{at_split}
use Rattle.shim_laws_table.proofs.SameTrees.{same_or_not, no_fork, aside_or_further, is_put}
use Rattle.shim_laws_table.proofs.OneChange.{one_state, one_status}
use Rattle.shim_laws_table.proofs.PlacesAbove.{PlaceAbove, way_from, fork_above, with_split, leaf_no_fork}
use Rattle.shim_laws_table.proofs.Begun.{counts_begin, fork_parts}
use Rattle.shim_laws_table.proofs.Linked.{links_follow, running_follow}
use Rattle.shim_laws_table.proofs.Hanging.{tied, topmost, HasParent}
use Rattle.shim_laws_table.proofs.LabelsBegun.{labels_begin}
use Rattle.shim_laws_table.proofs.MinLabels.{min_labels_follow}
use Rattle.shim_laws_table.proofs.LabelsLowering.{labels_lowered, not_above_root}
use Rattle.shim_laws_table.proofs.Suffices.{given_suffice}
use Rattle.shim_records.specs.Pairs.{record_view, up_in, up_at, counts_in, counts_at, min_labels_in, min_label_at, known_in, rest_of, chans_of, IsOrdered, AreOrdered}
use Rattle.shim_records.specs.Acted.{process_status_of}
use Rattle.shim_records.specs.UpdatesAbove.{AllUpdatedAbove, none_left, one_more}
use Rattle.shim_records.specs.Died.{IsTaken}
use Rattle.shim_records.specs.CountingOff.{HasCountedOff, alone, lost, below}
use Rattle.shim_records.specs.declared.record.Record.{Record}
use Rattle.shim_records.specs.declared.record.Status.{Status}
use Rattle.shim_records.specs.declared.record.Status.TheVariants as code
use Rattle.shim_records.proofs.Stepping.{set_there, set_elsewhere, map_set}
use Rattle.shim_records.proofs.Representing.{map_get}
use Rattle.shim_records.proofs.ReadOff.{same_views}
use Rattle.shim_records.proofs.FullPropagation.{rest_ups}
use Rattle.shim_records.proofs.ManyPropagations.{among_or_not}
use Rattle.shim_records.proofs.AllLowered as labels_above
use Rattle.shim_records.proofs.Acting.{step_updates_counts}
use Rattle.shim_records.proofs.SharingFound.{knowledge, same_known}
use Rattle.shim_laws_table_events.specs.keeping.Tables.{IsFit, TableInvariant}
use Rattle.shim_laws_table_events.specs.keeping.Knowing.{AreKnown}
use Rattle.shim_laws_table_events.specs.keeping.Acting.{left_by, with_status, TakesIn, Terminates, ExitPreserves}
use Rattle.shim_laws_table_events.proofs.keeping.Forks.{Was, carried}
use Rattle.shim_laws_table_events.proofs.keeping.Knowing.{known_on, acts_fewer}
use Rattle.shim_laws_table_events.proofs.keeping.Moved.{map_length}
use Rattle.shim_laws_table_events.proofs.keeping.OneLess.{less_going, at_set, found, same_rest, all_say, left_counts, left_labels, left_ups, left_views}
use Rattle.shim_laws_table_events.proofs.keeping.Acts as does
use Rattle.shim_laws_table_events.proofs.keeping.Marks.{left_state, left_leaf, left_status}
use Rattle.shim_laws_table_events.proofs.keeping.Marks as marks

no_channel : Channel
no_channel = record { home = []; serial = 0 }

snoc_same : (r q : List ℕ) (b d : ℕ) → r ++ b ∷ [] ≡ q ++ d ∷ [] → r ≡ q
snoc_same [] [] b d e = refl
snoc_same [] (y ∷ []) b d e = absurd cc
snoc_same [] (y ∷ z ∷ q) b d e = absurd cc
snoc_same (x ∷ []) [] b d e = absurd cc
snoc_same (x ∷ z ∷ r) [] b d e = absurd cc
snoc_same (x ∷ r) (y ∷ q) b d e = both (heads e) (snoc_same r q b d (tails e))
  where
    heads : x ∷ (r ++ b ∷ []) ≡ y ∷ (q ++ d ∷ []) → x ≡ y
    heads h = cc

    tails : x ∷ (r ++ b ∷ []) ≡ y ∷ (q ++ d ∷ []) → r ++ b ∷ [] ≡ q ++ d ∷ []
    tails h = cc

    both : x ≡ y → r ≡ q → x ∷ r ≡ y ∷ q
    both h g = λ i. h i ∷ g i

one_less : (now was kept before behind b : ℕ) → now ≡ was - 1 → kept ≡ was → kept ≡ before → behind + 1 ≡ before + b → b ≡ 0 → now ≡ behind
one_less now was kept before behind b e f g h z = omega (arith, e, f, g, h, z)

-- a fork in its place, with what stays of its children
module _ {S : Type 0} (o : Ops S) (q : List ℕ) (m a old new : Node S) (rep : IsReplaced q m a old new) (leaf : is_leaf a ≡ true) where
  carried_at : {X : Type 0} (F : Nodes S → X) (r : List ℕ) (l : S) (ks : Nodes S) → ((is js : Nodes S) → is_above r q ≡ true → at r old ≡ Some (Forked l is) → at r new ≡ Some (Forked l js) → F js ≡ F is) → at r new ≡ Some (Forked l ks)
      → Was o q m a old new rep leaf F r l ks
  carried_at F r l ks stays there = elim (aside_or_further q r) [
    | inr x ↦ leaf_no_fork x.0 a l ks leaf (sym (at_split q x.0 new a rep.is) ∙ (ap (λ z. at z new) (sym x.1) ∙ there))
    | inl far ↦ on far (is_above r q) refl
  ]
    where
      on : IsAside r q → (b : Bool) → is_above r q ≡ b → Was o q m a old new rep leaf F r l ks
      on far false u = record { children = ks; there = sym ((min_labels_follow o).aside old new m a q r rep u far) ∙ there; same = refl }
      on far true u =
          let y = way_from r q u in
          let v = fork_above r y.branch y.rest old m (ap (λ z. at z old) (sym y.is) ∙ rep.was) in
          let now : at r new ≡ Some (Forked v.state (put_child y.branch y.rest a v.children)) =
          ap (at r) (is_put q m a old new rep) ∙ (ap (λ z. at r (put z a old)) y.is ∙ with_split r (y.branch ∷ y.rest) a old (Forked v.state v.children) v.there) in
          let parts = fork_parts o no_channel l v.state ks (put_child y.branch y.rest a v.children) (sym there ∙ now) in
          let was : at r old ≡ Some (Forked l v.children) = v.there ∙ ap (λ z. Some (Forked z v.children)) (sym parts.0) in
          record { children = v.children; there = was; same = stays v.children ks u was there }

-- the ways up change no labels
updated_labels : {was is : Channel → Read} {n x : ℕ} {cs : List Channel} {rs behind : List Record} (c : Channel) (i : ℕ) → AllUpdatedAbove was is n x cs rs behind → min_labels_in c behind i ≡ min_labels_in c rs i
updated_labels c i (none_left rs) = refl
updated_labels c i (one_more d cs read reads before between behind once v u way more) = updated_labels c i more ∙ way.1.labels c i

module _ {S : Type 0} (o : Ops S) (law : LocalLaws o) (rp : Path) (states : List S) (rs behind : List Record) (old new : Node S) (l : S) (k : Status) (effects : Effects) (x f : ℕ)
    (kept : TableInvariant o rp (record { states = states; records = rs }) old) (has : Has states (map record_view rs) x f l lives) (leaves : Terminates o l k 4294967295 x rs behind) (gone : goes (left_by l k) ≡ false)
    (acts : act_live o l (o.stop l) ≡ Some (record { node = left_by l k; effects = effects })) where
  abbrev a : Acted S
  a = record { node = left_by l k; effects = effects }

  abbrev was : Record
  was = leaves.was

  abbrev ms : List Record
  ms = slice_set rs x (with_status k was)

  abbrev st : List RecordView
  st = map record_view rs

  abbrev st' : List RecordView
  st' = map record_view ms

  -- its record says what came of it
  mine : Has states st' x was.first l (process_status_of k)
  mine = marks.mine o states rs behind l k x f has leaves gone

  changed : HasChanged states states st st' x l (process_status_of k)
  changed = marks.changed o states rs behind l k x f has leaves gone

  change : HasChanged states states st st' x (state (left_by l k)) (process_status (left_by l k))
  change = marks.change o states rs behind l k x f has leaves gone

  module _ (shown : Represents o rp states st' new) (rep : IsReplaced (place o rp l) (Live l) (left_by l k) old new) where
    -- a fork was one before
    was_fork : (j d n : ℕ) (t : S) → Has states st' j d t (forks n) → (j ≢ x) × Has states st j d t (forks n)
    was_fork j d n t h = elim (same_or_not j x) [
      | inl w ↦ no_fork (left_by l k) n (left_leaf l k) (left_status l k gone ∙ sym (one_status states st' j d was.first t l (forks n) (process_status_of k) h (subst (λ z. Has states st' z was.first l (process_status_of k)) (sym w) mine)))
      | inr w ↦ (w, changed.only j d t (forks n) w h)
    ]

    few : AreAtMost 4294967295 states st'
    few j d n t h = kept.few j d n t (was_fork j d n t h).1

    ups_with_status : up_in ms ≡ up_in rs
    ups_with_status = λ t i. at_set up_at rs x was (with_status k was) leaves.there refl i t

    counts_with_status : (c : Channel) → counts_in c ms ≡ counts_in c rs
    counts_with_status c = λ t i. at_set (counts_at c) rs x was (with_status k was) leaves.there refl i t

    labels_with_status : (c : Channel) → min_labels_in c ms ≡ min_labels_in c rs
    labels_with_status c = λ t i. at_set (min_label_at c) rs x was (with_status k was) leaves.there refl i t

    linked : AreLinked states st' (up_in ms)
    linked = subst (AreLinked states st') (sym ups_with_status) ((links_follow o).changed states states st st' x (left_by l k) (up_in rs) (left_leaf l k) change kept.linked)

    near : length (place o rp l) ≤ 4294967295
    near = (kept.fit x f l lives was has leaves.there).near

    begun : (c : Channel) → OnTheWay o rp states st' c (counts_in c rs) old new (place o rp l) × HaveCounts o rp states st' c (counts_in c rs) new
    begun c = (counts_begin o).changed rp states states st st' c old new (Live l) (left_by l k) x (counts_in c rs) rep (left_leaf l k) (ap o.given (left_state l k)) change (kept.right c).counts (kept.right c).there

    have : (c : Channel) → HaveCounts o rp states st' c (counts_in c ms) new
    have c = subst (λ z. HaveCounts o rp states st' c z new) (sym (counts_with_status c)) (begun c).1

    way : (c : Channel) → OnTheWay o rp states st' c (counts_in c ms) old new (place o rp l)
    way c = subst (λ z. OnTheWay o rp states st' c z old new (place o rp l)) (sym (counts_with_status c)) (begun c).0

    -- ---- labels

    labels_way : (c : Channel) → LabelsOnTheWay o rp states st' c (counts_in c ms) (min_labels_in c ms) old new (place o rp l)
    labels_way c =
        subst (λ z. LabelsOnTheWay o rp states st' c z (min_labels_in c ms) old new (place o rp l)) (sym (counts_with_status c))
        (subst (λ z. LabelsOnTheWay o rp states st' c (counts_in c rs) z old new (place o rp l)) (sym (labels_with_status c))
        ((labels_begin o).changed rp states states st st' c old new (Live l) (left_by l k) x (counts_in c rs) (min_labels_in c rs) rep (left_leaf l k) change (kept.right c).labels))

    -- an end leaves them
    as_before : (c : Channel) → min_dead_label o c (left_by l k) ≡ None → Labelled o rp states st' c (counts_in c ms) (min_labels_in c ms) new
    as_before c none j d n t u ks fork counted now =
        let w = carried o (place o rp l) (Live l) (left_by l k) old new rep (left_leaf l k) (min_dead_label_among o c) (λ r v is js above was is'. (min_labels_follow o).stays c old new (Live l) (left_by l k) (place o rp l) r v is js rep none above was is') (place o rp t) u ks now in
        ap (λ z. z j) (labels_with_status c) ∙ ((kept.right c).labels j d n t u w.children (was_fork j d n t fork).1 (λ e. counted (ap (λ z. z j) (counts_with_status c) ∙ e)) w.there ∙ sym w.same)

    -- a death brings its own, wherever it is shared
    with_death : (c : Channel) (y : ℕ) → min_dead_label o c (left_by l k) ≡ cond (o.shares l c) (Some y) None → IsTaken o l y 4294967295 x ms leaves.labelled → Labelled o rp states st' c (counts_in c ms) (min_labels_in c leaves.labelled) new
    with_death c y is taken = elim (among_or_not c taken.chans) [
      | inl g ↦
          let label : Some y ≡ min_dead_label o c (left_by l k) = sym (is ∙ ap (λ z. cond z (Some y) None) (taken.shared c g)) in
          labels_lowered o law rp states st' (up_in ms) c old new (Live l) (left_by l k) 4294967295 x was.first l (process_status_of k) (counts_in c ms) (min_labels_in c ms) (min_labels_in c leaves.labelled) shown linked mine rep refl (taken.shared c g) (have c) near (labels_way c)
          (subst (λ z. LoweredAbove (up_in ms) (counts_in c ms) z 4294967295 (min_labels_in c ms) x (min_labels_in c leaves.labelled)) label (labels_above.its_way y 4294967295 x c taken.is_lowered g).way)
      | inr out ↦ subst (λ z. Labelled o rp states st' c (counts_in c ms) z new) (sym (labels_above.others y 4294967295 x c taken.is_lowered out))
          ((given_suffice o law).labels rp states st' c old new (Live l) a x was.first l (process_status_of k) (counts_in c ms) (min_labels_in c ms) kept.represents.sound shown mine rep acts (λ given shares. out (taken.all c given shares)) (have c) (labels_way c))
    ]

    -- what was done to the labels, by what came of the process
    pub record HasTaken : Type 0 where
      pub rest : map rest_of leaves.labelled ≡ map rest_of ms
      pub counts : (c : Channel) → counts_in c leaves.labelled ≡ counts_in c ms
      pub labels : (c : Channel) → Labelled o rp states st' c (counts_in c ms) (min_labels_in c leaves.labelled) new

    taken : HasTaken
    taken = on k refl leaves.takes
      where
        lives_still : (h : Status) → h ≡ k → goes (left_by l h) ≡ true → HasTaken
        lives_still h e g = absurd (clash (goes (left_by l h)) g (ap (λ z. goes (left_by l z)) e ∙ gone))

        on : (h : Status) → h ≡ k → TakesIn o l h 4294967295 x ms leaves.labelled → HasTaken
        on code.Ended e same = record {
          rest = ap (map rest_of) same;
          counts = λ c. ap (counts_in c) same;
          labels = λ c. subst (λ z. Labelled o rp states st' c (counts_in c ms) (min_labels_in c z) new) (sym same) (as_before c (ap (λ z. min_dead_label o c (left_by l z)) (sym e)));
        }
        on (code.Dead y) e t = record {
          rest = labels_above.rest_same y.label 4294967295 x t.is_lowered;
          counts = λ c i j. labels_above.counts_same y.label 4294967295 x c j t.is_lowered i;
          labels = λ c. with_death c y.label (ap (λ z. min_dead_label o c (left_by l z)) (sym e)) t;
        }
        on code.Free e same = lives_still code.Free e refl
        on code.Live e same = lives_still code.Live e refl
        on (code.Forked n) e same = lives_still (code.Forked n) e refl

    -- ---- counts

    labelled_views : map record_view leaves.labelled ≡ st'
    labelled_views = same_views ms leaves.labelled taken.rest

    ups_labelled : up_in leaves.labelled ≡ up_in ms
    ups_labelled = rest_ups ms leaves.labelled taken.rest

    brought : (map rest_of leaves.counted ≡ map rest_of leaves.labelled)
        × ((c : Channel) → Tallied o rp states (map record_view leaves.counted) c (counts_in c leaves.counted) new × HaveCounts o rp states (map record_view leaves.counted) c (counts_in c leaves.counted) new)
    brought =
        step_updates_counts o law rp states leaves.labelled leaves.counted old new (Live l) a 4294967295 x was.first l (process_status_of k) kept.represents.sound (subst (λ z. Represents o rp states z new) (sym labelled_views) shown)
        (subst (λ z. AreLinked states z (up_in leaves.labelled)) (sym labelled_views) (subst (AreLinked states st') (sym ups_labelled) linked)) (subst (AreAtMost 4294967295 states) (sym labelled_views) few)
        (subst (λ z. Has states z x was.first l (process_status_of k)) (sym labelled_views) mine) rep acts (left_leaf l k) near
        (λ c. subst (λ z. HaveCounts o rp states z c (counts_in c leaves.labelled) new) (sym labelled_views) (subst (λ z. HaveCounts o rp states st' c z new) (sym (taken.counts c)) (have c)))
        (λ c. subst (λ z. OnTheWay o rp states z c (counts_in c leaves.labelled) old new (place o rp l)) (sym labelled_views) (subst (λ z. OnTheWay o rp states st' c z old new (place o rp l)) (sym (taken.counts c)) (way c))) leaves.updated

    counted_views : map record_view leaves.counted ≡ st'
    counted_views = same_views leaves.labelled leaves.counted brought.0 ∙ labelled_views

    ups_counted : up_in leaves.counted ≡ up_in ms
    ups_counted = rest_ups leaves.labelled leaves.counted brought.0 ∙ ups_labelled

    -- ---- the end

    end_views : map record_view behind ≡ st'
    end_views = left_views x leaves.counted behind leaves.left ∙ counted_views

    ups_end : up_in behind ≡ up_in ms
    ups_end = left_ups x leaves.counted behind leaves.left ∙ ups_counted

    have_end : (c : Channel) → HaveCounts o rp states (map record_view behind) c (counts_in c behind) new
    have_end c =
        subst (λ z. HaveCounts o rp states z c (counts_in c behind) new) (sym (left_views x leaves.counted behind leaves.left))
        (subst (λ z. HaveCounts o rp states (map record_view leaves.counted) c z new) (sym (left_counts x leaves.counted behind c leaves.left)) (brought.1 c).1)

    tallied_end : (c : Channel) → Tallied o rp states (map record_view behind) c (counts_in c behind) new
    tallied_end c =
        subst (λ z. Tallied o rp states z c (counts_in c behind) new) (sym (left_views x leaves.counted behind leaves.left))
        (subst (λ z. Tallied o rp states (map record_view leaves.counted) c z new) (sym (left_counts x leaves.counted behind c leaves.left)) (brought.1 c).0)

    labels_end : (c : Channel) (j : ℕ) → min_labels_in c behind j ≡ min_labels_in c leaves.labelled j
    labels_end c j = ap (λ z. z j) (left_labels x leaves.counted behind c leaves.left) ∙ updated_labels c j leaves.updated.updated

    labelled_end : (c : Channel) → Labelled o rp states (map record_view behind) c (counts_in c behind) (min_labels_in c behind) new
    labelled_end c j d n t u ks fork counted now =
        let fork' = subst (λ z. Has states z j d t (forks n)) end_views fork in
        labels_end c j ∙ taken.labels c j d n t u ks fork' ((have c j d n t u ks fork' now).1 ((have_end c j d n t u ks fork now).0 counted)) now

    paths : map (λ (r : Record). r.path) behind ≡ map (λ (r : Record). r.path) rs
    paths =
        all_say x leaves.counted behind (λ r. r.path) (λ r. refl) leaves.left
        ∙ (same_rest (λ z. z.path) leaves.labelled leaves.counted brought.0 ∙ (same_rest (λ z. z.path) ms leaves.labelled taken.rest ∙ map_set (λ r. r.path) rs x was (with_status k was) leaves.there refl))

    chans : map (λ (r : Record). chans_of r.pairs.items) behind ≡ map (λ (r : Record). chans_of r.pairs.items) rs
    chans =
        all_say x leaves.counted behind (λ r. chans_of r.pairs.items) (λ r. refl) leaves.left
        ∙ (same_rest (λ z. z.chans) leaves.labelled leaves.counted brought.0 ∙ (same_rest (λ z. z.chans) ms leaves.labelled taken.rest ∙ map_set (λ r. chans_of r.pairs.items) rs x was (with_status k was) leaves.there refl))

    goings : map (λ (r : Record). r.going_children) leaves.counted ≡ map (λ (r : Record). r.going_children) rs
    goings = same_rest (λ z. z.going_children) leaves.labelled leaves.counted brought.0 ∙ (same_rest (λ z. z.going_children) ms leaves.labelled taken.rest ∙ map_set (λ r. r.going_children) rs x was (with_status k was) leaves.there refl)

    knowing : map knowledge behind ≡ map knowledge rs
    knowing =
        all_say x leaves.counted behind knowledge (λ r. refl) leaves.left
        ∙ (same_rest (λ z. z.known) leaves.labelled leaves.counted brought.0 ∙ (same_rest (λ z. z.known) ms leaves.labelled taken.rest ∙ map_set knowledge rs x was (with_status k was) leaves.there refl))

    known : (c : Channel) → AreKnown o rp states st' c (known_in c behind) new
    known c =
        known_on o rp (record { states = states; records = rs }) old new kept x f l lives has (Live l) (left_by l k) rep (ap o.given (left_state l k)) c (λ far. acts_fewer o law (Live l) a c sound acts far) (left_leaf l k) states st' (known_in c behind)
        (λ j d n t h. (was_fork j d n t h).1) (λ j d n t h. same_known rs behind knowing c j)
      where
        sound : o.sound l
        sound = sound_at o (place o rp l) old (Live l) kept.represents.sound.below rep.was

    ordered : AreOrdered behind
    ordered i r e = let w = found (λ (r : Record). chans_of r.pairs.items) rs behind i r chans e in subst IsOrdered w.2 (kept.ordered i w.0 w.1)

    fit : (j d : ℕ) (t : S) (h : ProcessStatus) (r : Record) → Has states st' j d t h → slice_get behind j ≡ Some r → IsFit o rp t r
    fit j d t h r p e =
        let w = found (λ (r : Record). r.path) rs behind j r paths e in
        elim (same_or_not j x) [
          | inl v ↦
              let is : t ≡ l = one_state states st' j d was.first t l h (process_status_of k) p (subst (λ z. Has states st' z was.first l (process_status_of k)) (sym v) mine) in
              let before = kept.fit x f l lives w.0 has (ap (slice_get rs) (sym v) ∙ w.1) in
              subst (λ z. IsFit o rp z r) (sym is) (record { path = sym w.2 ∙ before.path; near = before.near; few = before.few })
          | inr v ↦ let before = kept.fit j d t h w.0 (changed.only j d t h v p) w.1 in record { path = sym w.2 ∙ before.path; near = before.near; few = before.few }
        ]

    -- ---- how many go on

    module _ (j d n : ℕ) (t u : S) (ks : Nodes S) (r : Record) (fork : Has states st' j d t (forks n)) (e : slice_get behind j ≡ Some r) (now : at (place o rp t) new ≡ Some (Forked u ks)) where
      it_was : Has states st j d t (forks n)
      it_was = (was_fork j d n t fork).1

      stays_going : slice_get leaves.counted j ≡ Some r → ((is js : Nodes S) → is_above (place o rp t) (place o rp l) ≡ true → at (place o rp t) old ≡ Some (Forked u is) → at (place o rp t) new ≡ Some (Forked u js) → going_of js ≡ going_of is) → r.going_children ≡ going_of ks
      stays_going there as_many =
          let w = found (λ (r : Record). r.going_children) rs leaves.counted j r goings there in
          let b = carried_at o (place o rp l) (Live l) (left_by l k) old new rep (left_leaf l k) going_of (place o rp t) u ks as_many now in
          sym w.2 ∙ (kept.going_children j d n t u b.children w.0 it_was w.1 b.there ∙ sym b.same)

      going_children : r.going_children ≡ going_of ks
      going_children = on leaves.left
        where
          on : HasCountedOff x leaves.counted behind → r.going_children ≡ going_of ks
          on (alone none same) =
              let top = topmost o rp states st' new shown (up_in ms) linked x was.first l (process_status_of k) mine (ap (λ z. z x) (sym ups_counted) ∙ none) in
              stays_going (ap (λ z. slice_get z j) (sym same) ∙ e)
              (λ is js above was' is'. absurd (clash (is_above (place o rp t) []) (ap (is_above (place o rp t)) (sym top) ∙ above) (not_above_root (place o rp t))))
          on (lost i up none same) =
              let b = tied o rp states st' new shown (up_in ms) linked x was.first i l (process_status_of k) mine (ap (λ z. z x) (sym ups_counted) ∙ up) in
              none_some (used b.0.first (forks b.0.many))
              (ap (option_map record_view) (sym none) ∙ (sym (map_get record_view leaves.counted i) ∙ (ap (λ z. slice_get z i) counted_views ∙ (ap (slice_get st') (sym b.1) ∙ b.0.has.view_is))))
          on (below i above_it up there same) =
              let b = tied o rp states st' new shown (up_in ms) linked x was.first i l (process_status_of k) mine (ap (λ z. z x) (sym ups_counted) ∙ up) in
              elim (same_or_not j i) [
                | inl v ↦ right_above b.0 (b.1 ∙ sym v) i above_it v there same
                | inr v ↦ stays_going (sym (set_elsewhere leaves.counted i j (less_going above_it) v) ∙ (ap (λ z. slice_get z j) (sym same) ∙ e)) (λ is js above was' is'. further b.0 (λ w. v (w ∙ b.1)) is js (way_from (place o rp t) (place o rp l) above) was' is')
              ]
            where
              right_above : (b : HasParent o rp states st' new shown x was.first l (process_status_of k)) → b.number ≡ j → (i : ℕ) (above_it : Record) → j ≡ i → slice_get leaves.counted i ≡ Some above_it → behind ≡ slice_set leaves.counted i (less_going above_it) → r.going_children ≡ going_of ks
              right_above b at_j i above_it v there same =
                  let w = found (λ (r : Record). r.going_children) rs leaves.counted i above_it goings there in
                  let lessened : r ≡ less_going above_it = some_same r (less_going above_it) (sym e ∙ (ap (λ z. slice_get z j) same ∙ (ap (slice_get (slice_set leaves.counted i (less_going above_it))) v ∙ set_there leaves.counted i above_it (less_going above_it) there))) in
                  let parent : b.parent ≡ t = one_state states st' j b.first d b.parent t (forks b.many) (forks n) (subst (λ z. Has states st' z b.first b.parent (forks b.many)) at_j b.has) fork in
                  let its_place : place o rp l ≡ place o rp t ++ b.branch ∷ [] = b.is ∙ ap (λ z. place o rp z ++ b.branch ∷ []) parent in
                  let before = carried_at o (place o rp l) (Live l) (left_by l k) old new rep (left_leaf l k) (λ js. zero) (place o rp t) u ks (λ is js above was' is'. refl) now in
                  one_less r.going_children above_it.going_children w.0.going_children (going_of before.children) (going_of ks) (bit (goes (left_by l k))) (ap (λ (z : Record). z.going_children) lessened) w.2
                  (kept.going_children j d n t u before.children w.0 it_was (ap (slice_get rs) v ∙ w.1) before.there)
                  ((running_follow o).right_above old new (Live l) (left_by l k) (place o rp t) b.branch u before.children ks (subst (λ z. IsReplaced z (Live l) (left_by l k) old new) its_place rep) before.there now)
                  (ap bit gone)

              further : (b : HasParent o rp states st' new shown x was.first l (process_status_of k)) → j ≢ b.number → (is js : Nodes S) → PlaceAbove (place o rp t) (place o rp l) → at (place o rp t) old ≡ Some (Forked u is) → at (place o rp t) new ≡ Some (Forked u js) → going_of js ≡ going_of is
              further b other is js y was' is' = by_rest y.rest y.is
                where
                  by_rest : (rest : List ℕ) → place o rp l ≡ place o rp t ++ y.branch ∷ rest → going_of js ≡ going_of is
                  by_rest [] at_it = absurd (other (shown.agrees.apart j b.number d b.first t b.parent (forks n) (forks b.many) fork b.has (snoc_same (place o rp t) (place o rp b.parent) y.branch b.branch (sym at_it ∙ b.is))))
                  by_rest (i ∷ rest) at_it = (running_follow o).further_above old new (Live l) (left_by l k) (place o rp t) y.branch i rest u is js (subst (λ z. IsReplaced z (Live l) (left_by l k) old new) at_it rep) was' is'

    pub kept_on : TableInvariant o rp (record { states = states; records = behind }) new
    kept_on = record {
      represents = subst (λ z. Represents o rp states z new) (sym end_views) shown;
      linked = subst (λ z. AreLinked states z (up_in behind)) (sym end_views) (subst (AreLinked states st') (sym ups_end) linked);
      few = subst (AreAtMost 4294967295 states) (sym end_views) few;
      ordered = ordered;
      right = λ c. record { there = have_end c; counts = tallied_end c; labels = labelled_end c };
      going_children = λ j d n t u ks r fork e now. going_children j d n t u ks r (subst (λ z. Has states z j d t (forks n)) end_views fork) e now;
      known = λ c. subst (λ z. AreKnown o rp states z c (known_in c behind) new) (sym end_views) (known c);
      fit = λ j d t h r p e. fit j d t h r (subst (λ z. Has states z j d t h) end_views p) e;
      beside = kept.beside ∙ (sym (map_length (λ (r : Record). r.path) rs) ∙ (ap length (sym paths) ∙ map_length (λ (r : Record). r.path) behind));
    }

pub exit_preserves : {S : Type 0} (o : Ops S) → LocalLaws o → ExitPreserves o
exit_preserves {S} o law states rs behind x f l k effects has acts gone leaves rp t kept =
    let a : Acted S = record { node = left_by l k; effects = effects } in
    let st = map record_view rs in
    let st' = map record_view (slice_set rs x (with_status k leaves.was)) in
    let now = marks.change o states rs behind l k x f has leaves gone in
    let u = does.next o law rp states states st st' t x f l a kept.represents has acts (left_leaf l k) now in (
      u.0,
      u.1,
      kept_on o law rp states rs behind t.root u.0.root l k effects x f kept has leaves gone acts (does.shown o law rp states states st st' t x f l a kept.represents has acts (left_leaf l k) now)
          (does.replaced o law rp states states st st' t x f l a kept.represents has acts (left_leaf l k) now),
    )
