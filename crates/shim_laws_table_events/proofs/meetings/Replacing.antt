-- A live process has changed, and has nothing below it then: what the records keep, where the counts, the labels and the paths are right.
use Rattle.std.proofs.Common.{◌≡◌, ◌≢◌, ◌≤◌, ℕ, true, Option, Some, None, List, ◌++◌, map, length, drop, inl, inr, sym, ap, subst, ◌∙◌}
use Rattle.std.specs.Prelude.{slice_get}
use Rattle.shim_base.specs.Paths.{Path, Channel}
use Rattle.shim_local.specs.Process.{Ops}
use Rattle.shim_local.specs.Laws.{LocalLaws}
use Rattle.shim_semantics.specs.Nodes.{Node, Live, state}
use Rattle.shim_semantics.specs.Places.{branches}
use Rattle.shim_semantics.specs.Sound.{carriers}
use Rattle.shim_laws_table.specs.NodeStatus.{ProcessStatus, lives, forks, process_status, is_leaf, place}
use Rattle.shim_laws_table.specs.Agrees.{RecordView, used, Has, Represents}
use Rattle.shim_laws_table.specs.Places.{IsReplaced}
use Rattle.shim_laws_table.specs.Changes.{HasChanged}
use Rattle.shim_laws_table.specs.Counts.{Tally, ChildStatus as Read, child_status}
use Rattle.shim_laws_table.specs.Tallied.{Tallied, OnTheWay, HaveCounts}
use Rattle.shim_laws_table.specs.Updating.{AreLinked, AreAtMost, UpdatedAbove}
use Rattle.shim_laws_table.specs.Dooms.{min_dead_label, min_dead_label_among}
use Rattle.shim_laws_table.specs.LoweredLabels.{Labelled, LabelsOnTheWay}
use Rattle.shim_laws_table.proofs.SameTrees.{same_or_not, no_fork}
use Rattle.shim_laws_table.proofs.OneChange.{one_state, one_status}
use Rattle.shim_laws_table.proofs.Begun.{counts_begin}
use Rattle.shim_laws_table.proofs.LabelsBegun.{labels_begin}
use Rattle.shim_laws_table.proofs.Brought.{counts_follow}
use Rattle.shim_laws_table.proofs.Linked.{links_follow}
use Rattle.shim_laws_table.proofs.MinLabels.{min_labels_follow}
use Rattle.shim_records.specs.Pairs.{record_view, up_in, counts_in, min_labels_in, known_in, AreOrdered}
use Rattle.shim_records.specs.declared.record.Record.{Record}
use Rattle.shim_records.proofs.Representing.{map_get}
use Rattle.shim_laws_table_events.specs.keeping.Tables.{IsRight, IsFit, GoRight, TableInvariant}
use Rattle.shim_laws_table_events.proofs.keeping.Forks.{carried}
use Rattle.shim_laws_table_events.proofs.keeping.Knowing.{known_on}
use Rattle.shim_laws_table_events.proofs.keeping.Moved.{from_map}
use Rattle.shim_laws_table_events.proofs.meetings.Lists.{SamePaths}

module _ {S : Type 0} (o : Ops S) (law : LocalLaws o) (rp : Path) (states states' : List S) (rs behind : List Record) (old new : Node S) (l : S) (a : Node S) (x f : ℕ)
    (kept : TableInvariant o rp (record { states = states; records = rs }) old) (has : Has states (map record_view rs) x f l lives)
    (changed : HasChanged states states' (map record_view rs) (map record_view behind) x (state a) (process_status a)) (leaf : is_leaf a ≡ true)
    (path : o.path (state a) ≡ o.path l) (given : o.given (state a) ≡ o.given l) (rep : IsReplaced (place o rp l) (Live l) a old new)
    (shown : Represents o rp states' (map record_view behind) new) (ups : up_in behind ≡ up_in rs) where
  abbrev st : List RecordView
  st = map record_view rs

  abbrev st' : List RecordView
  st' = map record_view behind

  pub same_place : place o rp (state a) ≡ place o rp l
  same_place = ap (λ z. branches (drop (length rp) z)) path

  pub linked : AreLinked states' st' (up_in behind)
  linked = subst (AreLinked states' st') (sym ups) ((links_follow o).changed states states' st st' x a (up_in rs) leaf changed kept.linked)

  -- a fork was one before
  pub was_fork : (j d n : ℕ) (t : S) → Has states' st' j d t (forks n) → (j ≢ x) × Has states st j d t (forks n)
  was_fork j d n t h = elim (same_or_not j x) [
    | inl w ↦ no_fork a n leaf (sym (one_status states' st' j d changed.first t (state a) (forks n) (process_status a) h (subst (λ z. Has states' st' z changed.first (state a) (process_status a)) (sym w) changed.mine)))
    | inr w ↦ (w, changed.only j d t (forks n) w h)
  ]

  few : AreAtMost 4294967295 states' st'
  few j d n t h = kept.few j d n t (was_fork j d n t h).1

  its_record : (r : Record) × (slice_get rs x ≡ Some r) × (record_view r ≡ used f lives)
  its_record = from_map record_view (slice_get rs x) (used f lives) (sym (map_get record_view rs x) ∙ has.view_is)

  pub near : length (place o rp (state a)) ≤ 4294967295
  near = subst (λ z. length z ≤ 4294967295) (sym same_place) (kept.fit x f l lives its_record.0 has its_record.1).near

  pub rep' : IsReplaced (place o rp (state a)) (Live l) a old new
  rep' = subst (λ z. IsReplaced z (Live l) a old new) (sym same_place) rep

  module _ (c : Channel) where
    abbrev pub Both : (ℕ → Option Tally) → Type 0
    Both counts = Tallied o rp states' st' c counts new × HaveCounts o rp states' st' c counts new

    begun : OnTheWay o rp states' st' c (counts_in c rs) old new (place o rp l) × HaveCounts o rp states' st' c (counts_in c rs) new
    begun = (counts_begin o).changed rp states states' st st' c old new (Live l) a x (counts_in c rs) rep leaf given changed (kept.right c).counts (kept.right c).there

    way : OnTheWay o rp states' st' c (counts_in c rs) old new (place o rp (state a))
    way = subst (OnTheWay o rp states' st' c (counts_in c rs) old new) (sym same_place) begun.0

    -- for a channel of which the same is read of it nothing is to be done
    pub unread : child_status o c (Live l) ≡ child_status o c a → Both (counts_in c rs)
    unread e = ((counts_follow o law).alike rp states' st' c old new (Live l) a (place o rp l) (counts_in c rs) rep e begun.0, begun.1)

    -- nor for one of its own
    pub its_own : (r : Path) → c.home ≡ o.path (state a) ++ r → Both (counts_in c rs)
    its_own r home = ((counts_follow o law).own rp states' st' c old new x changed.first (state a) (process_status a) r (counts_in c rs) shown changed.mine home begun.1 way, begun.1)

    -- for others the counts above were updated
    pub walked : (was is : Read) (after : ℕ → Option Tally) → child_status o c (Live l) ≡ was → child_status o c a ≡ is → o.shares (state a) c ≡ true → UpdatedAbove (up_in behind) 4294967295 4294967295 (counts_in c rs) x was is after → Both after
    walked was is after e g shares updated = (counts_follow o law).updated rp states' st' (up_in behind) c old new (Live l) a 4294967295 4294967295 x changed.first (state a) (process_status a) was is (counts_in c rs) after shown linked few changed.mine rep' e g near shares begun.1 way updated

    pub labels_begun : LabelsOnTheWay o rp states' st' c (counts_in c rs) (min_labels_in c rs) old new (place o rp (state a))
    labels_begun = subst (LabelsOnTheWay o rp states' st' c (counts_in c rs) (min_labels_in c rs) old new) (sym same_place)
        ((labels_begin o).changed rp states states' st st' c old new (Live l) a x (counts_in c rs) (min_labels_in c rs) rep leaf changed (kept.right c).labels)

    pub have_begun : HaveCounts o rp states' st' c (counts_in c rs) new
    have_begun = begun.1

    -- where it brings no label, each is as it was
    pub unlabelled : (counts : ℕ → Option Tally) → HaveCounts o rp states' st' c counts new → min_dead_label o c a ≡ None → Labelled o rp states' st' c counts (min_labels_in c rs) new
    unlabelled counts have none j d n t u ks fork counted now =
        let w = carried o (place o rp l) (Live l) a old new rep leaf (min_dead_label_among o c) (λ r v is js above was is'. (min_labels_follow o).stays c old new (Live l) a (place o rp l) r v is js rep none above was is') (place o rp t) u ks now in
        (kept.right c).labels j d n t u w.children (was_fork j d n t fork).1 ((begun.1 j d n t u ks fork now).1 ((have j d n t u ks fork now).0 counted)) w.there ∙ sym w.same

  fit : SamePaths rs behind → (j d : ℕ) (t : S) (k : ProcessStatus) (r : Record) → Has states' st' j d t k → slice_get behind j ≡ Some r → IsFit o rp t r
  fit paths j d t k r h e =
      let q = paths j r e in
      elim (same_or_not j x) [
        | inl w ↦
            let is : t ≡ state a = one_state states' st' j d changed.first t (state a) k (process_status a) h (subst (λ z. Has states' st' z changed.first (state a) (process_status a)) (sym w) changed.mine) in
            let was = kept.fit x f l lives q.0 has (ap (slice_get rs) (sym w) ∙ q.1) in
            subst (λ z. IsFit o rp z r) (sym is) (record { path = sym q.2 ∙ (was.path ∙ sym path); near = near; few = subst (λ z. length z ≤ 18446744073709551615) (sym given) was.few })
        | inr w ↦ let was = kept.fit j d t k q.0 (changed.only j d t k w h) q.1 in record { path = sym q.2 ∙ was.path; near = was.near; few = was.few }
      ]

  pub keeps : AreOrdered behind → SamePaths rs behind → length states' ≡ length behind → ((c : Channel) (j : ℕ) → known_in c behind j ≡ known_in c rs j) → ((c : Channel) → carriers o c a ≤ carriers o c (Live l)) → ((c : Channel) → IsRight o rp (record { states = states'; records = behind }) new c) → GoRight o rp (record { states = states'; records = behind }) new
      → TableInvariant o rp (record { states = states'; records = behind }) new
  keeps ordered paths beside same fewer right going_children = record { represents = shown; linked = linked; few = few; ordered = ordered; right = right; going_children = going_children; known = λ c. known_on o rp (record { states = states; records = rs }) old new kept x f l lives has (Live l) a rep given c (λ far. fewer c) leaf states' st' (known_in c behind) (λ j d n t h. (was_fork j d n t h).1) (λ j d n t h. same c j); fit = fit paths; beside = beside }
