-- A live process has changed and may have come to a channel: the records keep all that they kept.
use Rattle.std.proofs.Common.{◌≡◌, ◌≢◌, ◌≤◌, ℕ, zero, suc, Bool, true, false, Option, Some, None, List, [], ◌∷◌, ◌++◌, map, length, drop, inl, inr, refl, sym, ap, subst, ◌∙◌}
use Rattle.std.specs.Prelude.{slice_get, slice_set}
use Rattle.std.specs.Option.{option_map}
use Rattle.std.proofs.lemmas.List.{append-nil}
use Rattle.shim_base.specs.Paths.{Path, Channel, same_path, same_channel}
use Rattle.shim_base.proofs.Facts.{some_same, none_some, true_or_false}
use Rattle.shim_base.proofs.SamePaths.{same_path_refl, same_path_is, same_channel_is}
use Rattle.shim_local.specs.Process.{Ops}
use Rattle.shim_local.specs.Laws.{LocalLaws}
use Rattle.shim_semantics.specs.Nodes.{Node, Nodes, Live, Forked, is_next}
use Rattle.shim_semantics.specs.Places.{at, branches}
use Rattle.shim_semantics.specs.Sound.{carriers}
use Rattle.shim_semantics.proofs.HowMany.{clash}
use Rattle.shim_laws_table.specs.NodeStatus.{ProcessStatus, lives, forks, place}
use Rattle.shim_laws_table.specs.Agrees.{RecordView, used, Has, Represents}
use Rattle.shim_laws_table.specs.Places.{IsReplaced}
use Rattle.shim_laws_table.specs.Changes.{HasChanged}
use Rattle.shim_laws_table.specs.Counts.{Tally, ChildStatus as Read, going_of}
use Rattle.shim_laws_table.specs.Tallied.{Tallied, OnTheWay, HaveCounts, is_above}
use Rattle.shim_laws_table.specs.Updating.{AreLinked, AreAtMost, UpdatedAbove, too_far, at_top, no_counts, stays, goes_on}
use Rattle.shim_laws_table.specs.Dooms.{min_dead_label_among}
use Rattle.shim_laws_table.specs.LoweredLabels.{Labelled}
use Rattle.shim_laws_table.proofs.SameTrees.{same_or_not, no_fork}
use Rattle.shim_laws_table.proofs.OneChange.{one_state, one_status}
use Rattle.shim_laws_table.proofs.PlacesAbove.{above_its_own}
use Rattle.shim_laws_table.proofs.Begun.{counts_begin}
use Rattle.shim_laws_table.proofs.Brought.{counts_follow}
use Rattle.shim_laws_table.proofs.Linked.{links_follow}
use Rattle.shim_laws_table.proofs.Hanging.{tied, counts_share, none_above}
use Rattle.shim_laws_table.proofs.MinLabels.{min_labels_follow}
use Rattle.shim_records.specs.Pairs.{record_view, up_in, counts_in, min_labels_in, known_in, rest_of, child_status_of, UncountedRecord}
use Rattle.shim_records.specs.declared.record.Record.{Record}
use Rattle.shim_records.proofs.Stepping.{set_there, set_elsewhere}
use Rattle.shim_records.proofs.Representing.{map_get}
use Rattle.shim_records.proofs.ReadOff.{same_views}
use Rattle.shim_records.proofs.SharingFound.{rest_known}
use Rattle.shim_records.proofs.FullPropagation.{rest_ups, kept_order}
use Rattle.shim_laws_table_events.specs.keeping.Tables.{IsFit, TableInvariant}
use Rattle.shim_laws_table_events.specs.keeping.Propagating.{PropagatesStop, nowhere, there}
use Rattle.shim_laws_table_events.specs.keeping.Knowing.{AreKnown}
use Rattle.shim_laws_table_events.proofs.keeping.Forks.{carried, as_many}
use Rattle.shim_laws_table_events.proofs.keeping.Knowing.{Elsewhere, known_on}

-- what stays of a process, whatever it did by itself
pub record Stays {S : Type 0} (o : Ops S) (l s : S) : Type 0 where
  pub path : o.path s ≡ o.path l
  pub given : o.given s ≡ o.given l
  pub shares : (c : Channel) → c.home ≢ o.path l → o.shares l c ≡ o.shares s c
  pub carries : (c : Channel) → Elsewhere (o.path l) c → carriers o c (Live s) ≤ carriers o c (Live l)

pub set_length : {A : Type 0} (xs : List A) (i : ℕ) (x : A) → length (slice_set xs i x) ≡ length xs
set_length [] i x = refl
set_length (y ∷ xs) zero x = refl
set_length (y ∷ xs) (suc i) x = ap suc (set_length xs i x)

pub map_length : {A B : Type 0} (f : A → B) (xs : List A) → length (map f xs) ≡ length xs
map_length f [] = refl
map_length f (x ∷ xs) = ap suc (map_length f xs)

pub from_map : {A B : Type 0} (f : A → B) (x : Option A) (y : B) → option_map f x ≡ Some y → (z : A) × (x ≡ Some z) × (f z ≡ y)
from_map f None y e = none_some y e
from_map f (Some z) y e = (z, refl, some_same (f z) y e)

-- the record before
pub was_record : (before behind : List Record) (i : ℕ) (r : Record) → map rest_of behind ≡ map rest_of before → slice_get behind i ≡ Some r → (q : Record) × (slice_get before i ≡ Some q) × (rest_of q ≡ rest_of r)
was_record before behind i r h e = from_map rest_of (slice_get before i) (rest_of r) (sym (map_get rest_of before i) ∙ (ap (λ z. slice_get z i) (sym h) ∙ (map_get rest_of behind i ∙ ap (option_map rest_of) e)))

module _ {S : Type 0} (o : Ops S) (law : LocalLaws o) (rp : Path) (states : List S) (rs behind : List Record) (old new : Node S) (l s : S) (x f : ℕ)
    (kept : TableInvariant o rp (record { states = states; records = rs }) old) (has : Has states (map record_view rs) x f l lives)
    (shown : Represents o rp (slice_set states x s) (map record_view rs) new) (rep : IsReplaced (place o rp l) (Live l) (Live s) old new) (stay : Stays o l s)
    (unread : (c : Channel) → is_next (o.stop l) c ≡ false) (propagates : PropagatesStop o s 4294967295 x rs behind) where
  abbrev st : List RecordView
  st = map record_view rs

  abbrev states' : List S
  states' = slice_set states x s

  mine : Has states' st x f s lives
  mine = record { state_is = set_there states x l s has.state_is; view_is = has.view_is }

  changed : HasChanged states states' st st x s lives
  changed = record {
    first = f;
    mine = mine;
    others = λ j d t k n h. record { state_is = set_elsewhere states x j s n ∙ h.state_is; view_is = h.view_is };
    only = λ j d t k n h. record { state_is = sym (set_elsewhere states x j s n) ∙ h.state_is; view_is = h.view_is };
  }

  same_place : place o rp s ≡ place o rp l
  same_place = ap (λ z. branches (drop (length rp) z)) stay.path

  linked : AreLinked states' st (up_in rs)
  linked = (links_follow o).changed states states' st st x (Live s) (up_in rs) refl changed kept.linked

  -- a fork was one before
  was_fork : (j d n : ℕ) (t : S) → Has states' st j d t (forks n) → (j ≢ x) × Has states st j d t (forks n)
  was_fork j d n t h = elim (same_or_not j x) [
    | inl w ↦ no_fork (Live s) n refl (sym (one_status states' st j d f t s (forks n) lives h (subst (λ z. Has states' st z f s lives) (sym w) mine)))
    | inr w ↦ (w, changed.only j d t (forks n) w h)
  ]

  few : AreAtMost 4294967295 states' st
  few j d n t h = kept.few j d n t (was_fork j d n t h).1

  rest : map rest_of behind ≡ map rest_of rs
  rest = on propagates
    where
      on : PropagatesStop o s 4294967295 x rs behind → map rest_of behind ≡ map rest_of rs
      on (nowhere e same) = ap (map rest_of) same
      on (there d was is e u v updated) = updated.1.rest

  labels_same : (c : Channel) → min_labels_in c behind ≡ min_labels_in c rs
  labels_same c = on propagates
    where
      on : PropagatesStop o s 4294967295 x rs behind → min_labels_in c behind ≡ min_labels_in c rs
      on (nowhere e same) = ap (min_labels_in c) same
      on (there d was is e u v updated) = λ t i. updated.1.labels c i t

  module _ (c : Channel) where
    abbrev Both : (ℕ → Option Tally) → Type 0
    Both counts = Tallied o rp states' st c counts new × HaveCounts o rp states' st c counts new

    begun : OnTheWay o rp states' st c (counts_in c rs) old new (place o rp l) × HaveCounts o rp states' st c (counts_in c rs) new
    begun = (counts_begin o).changed rp states states' st st c old new (Live l) (Live s) x (counts_in c rs) rep refl stay.given changed (kept.right c).counts (kept.right c).there

    way : OnTheWay o rp states' st c (counts_in c rs) old new (place o rp s)
    way = subst (OnTheWay o rp states' st c (counts_in c rs) old new) (sym same_place) begun.0

    rep' : IsReplaced (place o rp s) (Live l) (Live s) old new
    rep' = subst (λ z. IsReplaced z (Live l) (Live s) old new) (sym same_place) rep

    is_own : same_path c.home (o.path l) ≡ true → c.home ≡ o.path s ++ []
    is_own e = same_path_is c.home (o.path l) e ∙ (sym stay.path ∙ sym (append-nil (o.path s)))

    is_far : same_path c.home (o.path l) ≡ false → c.home ≢ o.path l
    is_far e w = clash (same_path c.home (o.path l)) (ap (λ z. same_path z (o.path l)) w ∙ same_path_refl (o.path l)) e

    -- of a channel at which it doesn't stand nothing is to be done
    still : is_next (o.stop s) c ≡ false → Both (counts_in c rs)
    still e = elim (true_or_false (same_path c.home (o.path l))) [
      | inl w ↦ ((counts_follow o law).own rp states' st c old new x f s lives [] (counts_in c rs) shown mine (is_own w) begun.1 way, begun.1)
      | inr w ↦ (
        (counts_follow o law).alike rp states' st c old new (Live l) (Live s) (place o rp l) (counts_in c rs) rep
            (λ i. let r : Read = record { going = stay.shares c (is_far w) i; ready_on = (unread c ∙ sym e) i; dead_on = false } in r) begun.0,
        begun.1,
      )
    ]

    -- no fork above counts a channel of its own
    uncounted : (counts : ℕ → Option Tally) → HaveCounts o rp states' st c counts new → (r : Path) → c.home ≡ o.path s ++ r → (j : ℕ) (y : Tally) → up_in rs x ≡ Some j → counts j ≡ Some y → ⊥
    uncounted counts have r home j y e is =
        let w = tied o rp states' st new shown (up_in rs) linked x f j s lives mine e in
        let b = w.0 in
        none_above o rp states' st new shown c x f b.number b.first b.many s b.parent lives r mine home b.has (ap (is_above (place o rp b.parent)) b.is ∙ above_its_own (place o rp b.parent) b.branch)
        (counts_share o rp states' st new shown c counts have b.number b.first b.many b.parent y b.has (ap counts w.1 ∙ is))

    nothing_done : {p : ℕ} {was is : Read} {before after : ℕ → Option Tally} → UpdatedAbove (up_in rs) 4294967295 p before x was is after → HaveCounts o rp states' st c before new → (r : Path) → c.home ≡ o.path s ++ r → after ≡ before
    nothing_done (too_far before x was is) have r home = refl
    nothing_done (at_top p before x was is e) have r home = refl
    nothing_done (no_counts p before x j was is e none) have r home = refl
    nothing_done (stays p before after x j was is y z e step same) have r home = absurd (uncounted before have r home j y e step.old)
    nothing_done (goes_on p before between after x j was is y z e step more) have r home = absurd (uncounted before have r home j y e step.old)

    -- for the one at which it is the counts above were updated
    came : (after : ℕ → Option Tally) → is_next (o.stop s) c ≡ true → o.shares s c ≡ true → length (place o rp s) ≤ 4294967295
        → UpdatedAbove (up_in rs) 4294967295 4294967295 (counts_in c rs) x (record { going = true; ready_on = false; dead_on = false }) (record { going = true; ready_on = true; dead_on = false }) after → Both after
    came after e shares near updated = elim (true_or_false (same_path c.home (o.path l))) [
      | inl w ↦ subst Both (sym (nothing_done updated begun.1 [] (is_own w))) ((counts_follow o law).own rp states' st c old new x f s lives [] (counts_in c rs) shown mine (is_own w) begun.1 way, begun.1)
      | inr w ↦
          (counts_follow o law).updated rp states' st (up_in rs) c old new (Live l) (Live s) 4294967295 4294967295 x f s lives (record { going = true; ready_on = false; dead_on = false }) (record { going = true; ready_on = true; dead_on = false })
          (counts_in c rs) after shown linked few mine rep'
          (λ i. let r : Read = record { going = (stay.shares c (is_far w) ∙ shares) i; ready_on = unread c i; dead_on = false } in r)
          (λ i. let r : Read = record { going = shares i; ready_on = e i; dead_on = false } in r) near shares begun.1 way updated
    ]

  near : length (place o rp s) ≤ 4294967295
  near = let r = from_map record_view (slice_get rs x) (used f lives) (sym (map_get record_view rs x) ∙ has.view_is) in subst (λ z. length z ≤ 4294967295) (sym same_place) (kept.fit x f l lives r.0 has r.1).near

  arrived : o.sound s → (c : Channel) → Both c (counts_in c behind)
  arrived sound c = on propagates
    where
      on : PropagatesStop o s 4294967295 x rs behind → Both c (counts_in c behind)
      on (nowhere e same) = subst (λ z. Both c (counts_in c z)) (sym same) (still c (e c))
      on (there d was is e u v updated) = at_channel (same_channel d.channel c) refl
        where
          same_of : same_channel d.channel c ≡ false → counts_in c behind ≡ counts_in c rs
          same_of w = λ t i. updated.1.elsewhere c w i t

          at_channel : (b : Bool) → same_channel d.channel c ≡ b → Both c (counts_in c behind)
          at_channel false w = subst (Both c) (sym (same_of w)) (still c (ap (λ z. is_next z c) e ∙ w))
          at_channel true w =
              let same = same_channel_is d.channel c w in
              came c (counts_in c behind) (ap (λ z. is_next z c) e ∙ w) (ap (o.shares s) (sym same) ∙ law.next_shares s d sound e) near
              (subst (λ z. UpdatedAbove (up_in rs) 4294967295 4294967295 (counts_in z rs) x (record { going = true; ready_on = false; dead_on = false }) (record { going = true; ready_on = true; dead_on = false }) (counts_in z behind)) same
              (subst (λ z. UpdatedAbove (up_in rs) 4294967295 4294967295 (counts_in d.channel rs) x (record { going = true; ready_on = false; dead_on = false }) z (counts_in d.channel behind)) v
              (subst (λ z. UpdatedAbove (up_in rs) 4294967295 4294967295 (counts_in d.channel rs) x z (child_status_of is) (counts_in d.channel behind)) u updated.0)))

  labelled : (c : Channel) → HaveCounts o rp states' st c (counts_in c behind) new → Labelled o rp states' st c (counts_in c behind) (min_labels_in c behind) new
  labelled c have j d n t u ks fork counted now =
      let w = carried o (place o rp l) (Live l) (Live s) old new rep refl (min_dead_label_among o c) (λ r v is js above was is'. (min_labels_follow o).stays c old new (Live l) (Live s) (place o rp l) r v is js rep refl above was is') (place o rp t) u ks now in
      ap (λ z. z j) (labels_same c) ∙ ((kept.right c).labels j d n t u w.children (was_fork j d n t fork).1 (((begun c).1 j d n t u ks fork now).1 ((have j d n t u ks fork now).0 counted)) w.there ∙ sym w.same)

  going_children : (j d n : ℕ) (t u : S) (ks : Nodes S) (r : Record) → Has states' st j d t (forks n) → slice_get behind j ≡ Some r → at (place o rp t) new ≡ Some (Forked u ks) → r.going_children ≡ going_of ks
  going_children j d n t u ks r fork e now =
      let w = as_many o (place o rp l) (Live l) (Live s) old new rep refl refl (place o rp t) u ks now in
      let q = was_record rs behind j r rest e in
      ap (λ (z : UncountedRecord). z.going_children) (sym q.2) ∙ (kept.going_children j d n t u w.children q.0 (was_fork j d n t fork).1 q.1 w.there ∙ sym w.same)

  fit : (j d : ℕ) (t : S) (k : ProcessStatus) (r : Record) → Has states' st j d t k → slice_get behind j ≡ Some r → IsFit o rp t r
  fit j d t k r h e =
      let q = was_record rs behind j r rest e in
      let path = ap (λ (z : UncountedRecord). z.path) q.2 in
      elim (same_or_not j x) [
        | inl w ↦
            let is : t ≡ s = one_state states' st j d f t s k lives h (subst (λ z. Has states' st z f s lives) (sym w) mine) in
            let was = kept.fit x f l lives q.0 has (ap (slice_get rs) (sym w) ∙ q.1) in
            subst (λ z. IsFit o rp z r) (sym is) (record { path = sym path ∙ (was.path ∙ sym stay.path); near = near; few = subst (λ z. length z ≤ 18446744073709551615) (sym stay.given) was.few })
        | inr w ↦ let was = kept.fit j d t k q.0 (changed.only j d t k w h) q.1 in record { path = sym path ∙ was.path; near = was.near; few = was.few }
      ]

  known : (c : Channel) → AreKnown o rp states' st c (known_in c behind) new
  known c =
      known_on o rp (record { states = states; records = rs }) old new kept x f l lives has (Live l) (Live s) rep stay.given c (stay.carries c) refl states' st (known_in c behind)
      (λ j d n t h. (was_fork j d n t h).1) (λ j d n t h. rest_known rs behind rest c j)

  pub moved : o.sound s → TableInvariant o rp (record { states = states'; records = behind }) new
  moved sound =
      let same : map record_view behind ≡ st = same_views rs behind rest in
      let ups = rest_ups rs behind rest in
      record {
        represents = subst (λ z. Represents o rp states' z new) (sym same) shown;
        linked = subst (λ z. AreLinked states' z (up_in behind)) (sym same) (subst (AreLinked states' st) (sym ups) linked);
        few = subst (AreAtMost 4294967295 states') (sym same) few;
        ordered = kept_order rs behind rest kept.ordered;
        right = λ c. record {
          there = subst (λ z. HaveCounts o rp states' z c (counts_in c behind) new) (sym same) (arrived sound c).1;
          counts = subst (λ z. Tallied o rp states' z c (counts_in c behind) new) (sym same) (arrived sound c).0;
          labels = subst (λ z. Labelled o rp states' z c (counts_in c behind) (min_labels_in c behind) new) (sym same) (labelled c (arrived sound c).1);
        };
        going_children = λ j d n t u ks r fork e now. going_children j d n t u ks r (subst (λ z. Has states' z j d t (forks n)) same fork) e now;
        known = λ c. subst (λ z. AreKnown o rp states' z c (known_in c behind) new) (sym same) (known c);
        fit = λ j d t k r h e. fit j d t k r (subst (λ z. Has states' z j d t k) same h) e;
        beside = set_length states x s ∙ (kept.beside ∙ (sym (map_length rest_of rs) ∙ (ap length (sym rest) ∙ map_length rest_of behind)));
      }
