-- Where a process has forked, and the counts above were updated for the channels on which it is ready, what records keep for each channel is right.
use Rattle.std.proofs.Common.{◌≡◌, ◌≢◌, ◌⊎◌, ◌↔◌, ◌≤◌, ◌+◌, inl, inr, ℕ, suc, Bool, true, false, ◌&&◌, not, Option, Some, None, List, [], ◌∷◌, ◌++◌, map, cond, drop, length, refl, sym, ap, subst, ◌∙◌}
use Rattle.std.specs.Prelude.{slice_get, eqb, if◌then◌else◌}
use Rattle.std.proofs.lemmas.Bool.{eqb-true, eq-eqb}
use Rattle.shim_base.specs.Paths.{Path, Channel}
use Rattle.shim_base.proofs.Facts.{none_some, true_or_false}
use Rattle.shim_local.specs.Process.{Ops, AtFork, Parted}
use Rattle.shim_local.specs.Laws.{LocalLaws, AllOf, AnyOf, IsGiven, AreChildren, how_many}
use Rattle.shim_semantics.specs.Nodes.{Node, Live, Forked, all_live, is_next}
use Rattle.shim_semantics.specs.Places.{at, branches}
use Rattle.shim_laws_table.specs.NodeStatus.{ProcessStatus, lives, forks, place}
use Rattle.shim_laws_table.specs.Agrees.{RecordView, Represents}
use Rattle.shim_laws_table.specs.Places.{IsReplaced}
use Rattle.shim_laws_table.specs.Changes.{HasForked}
use Rattle.shim_laws_table.specs.Counts.{Tally, ChildStatus as Read, child_status, fresh_tally, tally_ready, is_zero}
use Rattle.shim_laws_table.specs.Tallied.{Tallied, OnTheWay, HaveCounts, is_above}
use Rattle.shim_laws_table.specs.Updating.{AreLinked, AreAtMost, UpdatedAbove, too_far, at_top, no_counts, stays, goes_on}
use Rattle.shim_laws_table.specs.Beginning.{AreOf}
use Rattle.shim_laws_table.specs.Dooms.{min_dead_label_among}
use Rattle.shim_laws_table.specs.LoweredLabels.{Labelled, LabelsOnTheWay}
use Rattle.shim_laws_table.proofs.SameTrees.{same_or_not}
use Rattle.shim_laws_table.proofs.PlacesAbove.{above_its_own}
use Rattle.shim_laws_table.proofs.Tallies.{counts_tell}
use Rattle.shim_laws_table.proofs.Begun.{counts_begin}
use Rattle.shim_laws_table.proofs.LabelsBegun.{labels_begin}
use Rattle.shim_laws_table.proofs.Brought.{counts_follow}
use Rattle.shim_laws_table.proofs.MinLabels.{min_labels_follow}
use Rattle.shim_laws_table.proofs.Suffices.{below_or_not}
use Rattle.shim_laws_table.proofs.Hanging.{tied, counts_share, none_above}
use Rattle.shim_records.specs.Members.{IsAmong}
use Rattle.shim_records.specs.Pairs.{tally, tally_for, pair_of, min_label_of, counts_at, counts_in, min_label_at, min_labels_in, up_in, record_view}
use Rattle.shim_records.specs.Fresh.{FreshPairs}
use Rattle.shim_records.specs.declared.record.Record.{Record}
use Rattle.shim_records.proofs.ManyPropagations.{others, its_way, among_or_not}
use Rattle.shim_records.proofs.Representing.{fork_initial_counts}
use Rattle.shim_laws_table_events.specs.keeping.Tables.{TableView, HasProcessState, TableInvariant}
use Rattle.shim_laws_table_events.specs.forks.Forking.{ready_chans, EachUpdatedAbove}
use Rattle.shim_laws_table_events.proofs.forks.Above.{fork_was}
use Rattle.shim_laws_table_events.proofs.forks.Readied.{going, all_ways, ready_pair, found_pair, ready_once, is_ready}

-- some joins, where all that join are there
some_live : {S : Type 0} (f : S → Bool) (ks : List S) (b : Bool) → not (is_zero (how_many f ks)) && b ≡ true → AnyOf (λ k. f k ≡ true) ks
some_live f [] b e = absurd cc
some_live f (k ∷ ks) b e = on (f k) refl e (λ h. some_live f ks b h)
  where
    on : (d : Bool) → f k ≡ d → not (is_zero (if d then suc (how_many f ks) else how_many f ks)) && b ≡ true → (not (is_zero (how_many f ks)) && b ≡ true → AnyOf (λ j. f j ≡ true) ks) → (f k ≡ true) ⊎ AnyOf (λ j. f j ≡ true) ks
    on true w e h = inl w
    on false w e h = inr (h e)

some_counts : (y : Option Tally) → y ≢ None → (z : Tally) × (y ≡ Some z)
some_counts None h = absurd (h refl)
some_counts (Some z) h = (z, refl)

-- the counts with those that one number had before
abbrev with_was : {A : Type 0} → ℕ → (ℕ → A) → (ℕ → A) → ℕ → A
with_was x old now j = cond (eqb j x) (old j) (now j)

was_there : {A : Type 0} (x : ℕ) (old now : ℕ → A) → with_was x old now x ≡ old x
was_there x old now = ap (λ b. cond b (old x) (now x)) (eq-eqb x x refl)

was_elsewhere : {A : Type 0} (x : ℕ) (old now : ℕ → A) (j : ℕ) → j ≢ x → now j ≡ with_was x old now j
was_elsewhere x old now j far = on (eqb j x) refl
  where
    on : (b : Bool) → eqb j x ≡ b → now j ≡ cond (eqb j x) (old j) (now j)
    on true e = absurd (far (eqb-true j x e))
    on false e = ap (λ b. cond b (old j) (now j)) (sym e)

-- a channel that one of these shares, but neither their parent nor any of them declared, is the parent's and was given to one
module _ {S : Type 0} (o : Ops S) (l : S) (c : Channel) where
  shared_given : (base n i : ℕ) (ks : List S) → AreChildren o (o.path l) base n i ks → AllOf (λ k. o.shares k c ≡ true → (o.shares l c ≡ true) ⊎ (c.home ≡ o.path k)) ks → AllOf (λ k. (o.shares k c ≡ true) ↔ IsGiven o k c) ks
      → ((r : Path) → c.home ≢ o.path l ++ r) → AnyOf (λ k. o.shares k c ≡ true) ks → (o.shares l c ≡ true) × AnyOf (λ k. IsGiven o k c) ks
  shared_given base n i [] child share give out any = absurd any
  shared_given base n i (k ∷ ks) child share give out (inl e) = (
    elim (share.0 e) [ inl w ↦ w | inr w ↦ absurd (out ((n, i) ∷ []) (w ∙ child.0)) ],
    inl (give.0.0 e),
  )
  shared_given base n i (k ∷ ks) child share give out (inr any) = let w = shared_given base n (i + 1) ks child.2 share.1 give.1 out any in (w.0, inr w.1)

module _ {S : Type 0} (o : Ops S) (law : LocalLaws o) (rp : Path) (old new : Node S) (before : TableView S) (states : List S) (records : List Record) (x g f : ℕ) (l p : S) (ks : List S) (is : Record)
    (kept : TableInvariant o rp before old) (has : HasProcessState before x f l lives) (sound : o.sound l) (stop : o.stop l ≡ AtFork) (parts : o.fork l ≡ Parted p ks)
    (its_own : slice_get records x ≡ Some is) (as_before : (j d : ℕ) (s : S) (k : ProcessStatus) → HasProcessState before j d s k → j ≢ x → slice_get records j ≡ slice_get before.records j)
    (forked : HasForked before.states states (map record_view before.records) (map record_view records) x g p ks) (shown : Represents o rp states (map record_view records) new)
    (rep : IsReplaced (place o rp l) (Live l) (Forked p (all_live ks)) old new) (path : o.path p ≡ o.path l) (given : o.given p ≡ o.given l) (pairs : FreshPairs o p ks is.pairs.items)
    (linked : AreLinked states (map record_view records) (up_in records)) (few : AreAtMost 4294967295 states (map record_view records)) (near : length (place o rp p) ≤ 4294967295) (c : Channel) where
  abbrev views : List RecordView
  views = map record_view records

  abbrev now : ℕ → Option Tally
  now = counts_in c records

  abbrev was : ℕ → Option Tally
  was = with_was x (counts_in c before.records) now

  abbrev say : ℕ → Option ℕ
  say = min_labels_in c records

  abbrev said : ℕ → Option ℕ
  said = with_was x (min_labels_in c before.records) say

  was_is : (j d : ℕ) (s : S) (k : ProcessStatus) → HasProcessState before j d s k → was j ≡ counts_in c before.records j
  was_is j d s k h = elim (same_or_not j x) [
    | inl w ↦ ap was w ∙ (was_there x (counts_in c before.records) now ∙ ap (counts_in c before.records) (sym w))
    | inr w ↦ sym (was_elsewhere x (counts_in c before.records) now j w) ∙ ap (counts_at c) (as_before j d s k h w)
  ]

  said_is : (j d : ℕ) (s : S) (k : ProcessStatus) → HasProcessState before j d s k → said j ≡ min_labels_in c before.records j
  said_is j d s k h = elim (same_or_not j x) [
    | inl w ↦ ap said w ∙ (was_there x (min_labels_in c before.records) say ∙ ap (min_labels_in c before.records) (sym w))
    | inr w ↦ sym (was_elsewhere x (min_labels_in c before.records) say j w) ∙ ap (min_label_at c) (as_before j d s k h w)
  ]

  begins : AreOf o c p (all_live ks) (tally_for c is.pairs.items) × (min_label_of (pair_of c is.pairs.items) ≡ min_dead_label_among o c (all_live ks))
  begins = fork_initial_counts o p ks is.pairs.items pairs c

  mine : AreOf o c p (all_live ks) (now x)
  mine = subst (AreOf o c p (all_live ks)) (sym (ap (counts_at c) its_own)) begins.0

  none_dead : min_dead_label_among o c (all_live ks) ≡ None
  none_dead = sym begins.1 ∙ pairs.unlabelled c

  begun : OnTheWay o rp states views c now old new (place o rp l) × HaveCounts o rp states views c now new
  begun =
      (counts_begin o).forked rp before.states states (map record_view before.records) views c old new x f g l p ks was now kept.represents.agrees has rep path given forked (was_elsewhere x (counts_in c before.records) now) mine
      (λ i d n s y m js h e there. (kept.right c).counts i d n s y m js h (sym (was_is i d s (forks n) h) ∙ e) there)
      (λ i d n s m js h there. let w = (kept.right c).there i d n s m js h there in ((λ e. w.0 (λ z. e (was_is i d s (forks n) h ∙ z))), (λ y z. w.1 y (sym (was_is i d s (forks n) h) ∙ z))))

  labels_begun : LabelsOnTheWay o rp states views c now say old new (place o rp l)
  labels_begun =
      (labels_begin o).forked rp before.states states (map record_view before.records) views c old new x f g l p ks was now said say kept.represents.agrees has rep path forked
      (was_elsewhere x (counts_in c before.records) now) (was_elsewhere x (min_labels_in c before.records) say) (ap (min_label_at c) its_own ∙ pairs.unlabelled c)
      (λ i d n s m js h counted there. said_is i d s (forks n) h ∙ (kept.right c).labels i d n s m js h (λ z. counted (was_is i d s (forks n) h ∙ z)) there)

  -- ---- labels

  pub labelled : (end : ℕ → Option Tally) → HaveCounts o rp states views c end new → Labelled o rp states views c end say new
  labelled end have j d n s m js fork counted there = on (is_above (place o rp s) (place o rp l)) refl
    where
      counted_now : now j ≢ None
      counted_now = (begun.1 j d n s m js fork there).1 ((have j d n s m js fork there).0 counted)

      on : (b : Bool) → is_above (place o rp s) (place o rp l) ≡ b → say j ≡ min_dead_label_among o c js
      on false e = labels_begun j d n s m js fork counted_now (ap (λ b. at (place o rp s) (cond b old new)) e ∙ there)
      on true e =
          let w = fork_was o (place o rp l) (Live l) (Forked p (all_live ks)) old new rep (place o rp s) m js e there in
          labels_begun j d n s m w.0 fork counted_now (ap (λ b. at (place o rp s) (cond b old new)) e ∙ w.1)
          ∙ sym ((min_labels_follow o).stays c old new (Live l) (Forked p (all_live ks)) (place o rp l) (place o rp s) m w.0 js rep none_dead e w.1 there)

  -- ---- counts

  abbrev pub Both : (ℕ → Option Tally) → Type 0
  Both counts = Tallied o rp states views c counts new × HaveCounts o rp states views c counts new

  same_place : place o rp p ≡ place o rp l
  same_place = ap (λ z. branches (drop (length rp) z)) path

  way : OnTheWay o rp states views c now old new (place o rp p)
  way = subst (OnTheWay o rp states views c now old new) (sym same_place) begun.0

  there : IsReplaced (place o rp p) (Live l) (Forked p (all_live ks)) old new
  there = subst (λ z. IsReplaced z (Live l) (Forked p (all_live ks)) old new) (sym same_place) rep

  shares_same : o.shares p c ≡ o.shares l c
  shares_same = law.fork_shares l p ks c sound (stop, parts)

  not_next : is_next (o.stop l) c ≡ false
  not_next = ap (λ z. is_next z c) stop

  fork_read : child_status o c (Forked p (all_live ks)) ≡ record { going = o.shares p c; ready_on = tally_ready (fresh_tally o c ks); dead_on = false }
  fork_read = (counts_tell o).fork c p (all_live ks) ∙ ap {B = Read} (λ y. record { going = o.shares p c; ready_on = tally_ready y; dead_on = false }) ((counts_tell o).fresh c ks)

  -- of a channel of its own, or of one below, nothing is to be done
  own : (r : Path) → c.home ≡ o.path p ++ r → Both now
  own r home = ((counts_follow o law).own rp states views c old new x g p (forks (length ks)) r now shown forked.parent home begun.1 way, begun.1)

  uncounted : (counts : ℕ → Option Tally) → HaveCounts o rp states views c counts new → (r : Path) → c.home ≡ o.path p ++ r → (j : ℕ) (y : Tally) → up_in records x ≡ Some j → counts j ≡ Some y → ⊥
  uncounted counts have r home j y e at_j =
      let w = tied o rp states views new shown (up_in records) linked x g j p (forks (length ks)) forked.parent e in
      let b = w.0 in
      none_above o rp states views new shown c x g b.number b.first b.many p b.parent (forks (length ks)) r forked.parent home b.has (ap (is_above (place o rp b.parent)) b.is ∙ above_its_own (place o rp b.parent) b.branch)
      (counts_share o rp states views new shown c counts have b.number b.first b.many b.parent y b.has (ap counts w.1 ∙ at_j))

  nothing_done : {n : ℕ} {w v : Read} {start end : ℕ → Option Tally} → UpdatedAbove (up_in records) 4294967295 n start x w v end → HaveCounts o rp states views c start new → (r : Path) → c.home ≡ o.path p ++ r → end ≡ start
  nothing_done (too_far start x w v) have r home = refl
  nothing_done (at_top n start x w v e) have r home = refl
  nothing_done (no_counts n start x j w v e none) have r home = refl
  nothing_done (stays n start end x j w v y z e step same) have r home = absurd (uncounted start have r home j y e step.old)
  nothing_done (goes_on n start between end x j w v y z e step more) have r home = absurd (uncounted start have r home j y e step.old)

  -- the channel is one of those on which the fork is ready
  ready_shares : IsAmong c (ready_chans is.pairs.items) → (o.shares p c ≡ true) × (tally_ready (fresh_tally o c ks) ≡ true)
  ready_shares h =
      let w = ready_pair c is.pairs.items h in
      let e = found_pair c is.pairs.items w.0 w.1 pairs.ordered w.2 w.3 in
      (((pairs.there c).0 (λ z. none_some (tally w.1) (sym z ∙ e))).0, ap tally_ready (sym (pairs.right c (tally w.1) e)) ∙ w.4)

  ready_among : ((r : Path) → c.home ≢ o.path p ++ r) → tally_ready (fresh_tally o c ks) ≡ true → IsAmong c (ready_chans is.pairs.items)
  ready_among out e =
      let children = law.fork_children l p ks sound (stop, parts) in
      let any = some_live (λ s. o.shares s c) ks (is_zero (fresh_tally o c ks).not_ready && is_zero (fresh_tally o c ks).dead) e in
      let w = shared_given o l c (o.handlers l) children.0 0 ks children.1 (law.children_share l p ks c sound (stop, parts)) (law.children_given l p ks c sound (stop, parts)) (λ r z. out r (z ∙ ap (λ q. q ++ r) (sym path))) any in
      let z = some_counts (tally_for c is.pairs.items) ((pairs.there c).1 (shares_same ∙ w.0, w.1)) in
      is_ready c is.pairs.items z.0 z.1 (ap tally_ready (pairs.right c z.0 z.1) ∙ e)

  updated : (end : ℕ → Option Tally) → IsAmong c (ready_chans is.pairs.items) → UpdatedAbove (up_in records) 4294967295 4294967295 now x (going false c) (going true c) end → Both end
  updated end h walked = let r = ready_shares h in elim (below_or_not (o.path p) c.home) [
    | inl e ↦ subst Both (sym (nothing_done walked begun.1 e.0 e.1)) (own e.0 e.1)
    | inr out ↦
        (counts_follow o law).updated rp states views (up_in records) c old new (Live l) (Forked p (all_live ks)) 4294967295 4294967295 x g p (forks (length ks)) (going false c) (going true c) now end shown linked few forked.parent there
        (λ i. let z : Read = record { going = (sym shares_same ∙ r.0) i; ready_on = not_next i; dead_on = false } in z)
        (fork_read ∙ λ i. let z : Read = record { going = r.0 i; ready_on = r.1 i; dead_on = false } in z) near r.0 begun.1 way walked
  ]

  still : (IsAmong c (ready_chans is.pairs.items) → ⊥) → Both now
  still none = elim (below_or_not (o.path p) c.home) [
    | inl e ↦ own e.0 e.1
    | inr out ↦ ((counts_follow o law).alike rp states views c old new (Live l) (Forked p (all_live ks)) (place o rp l) now rep (alike out) begun.0, begun.1)
  ]
    where
      alike : ((r : Path) → c.home ≢ o.path p ++ r) → child_status o c (Live l) ≡ child_status o c (Forked p (all_live ks))
      alike out =
          let unready : tally_ready (fresh_tally o c ks) ≡ false = elim (true_or_false (tally_ready (fresh_tally o c ks))) [ inl e ↦ absurd (none (ready_among out e)) | inr e ↦ e ] in
          (λ i. let z : Read = record { going = sym shares_same i; ready_on = (not_next ∙ sym unready) i; dead_on = false } in z) ∙ sym fork_read

  -- so where they were updated all counts are right
  pub brought : (behind : List Record) → EachUpdatedAbove 4294967295 x (ready_chans is.pairs.items) records behind → Both (counts_in c behind)
  brought behind walked =
      let ways = all_ways 4294967295 x (ready_once is.pairs.items pairs.ordered) walked in
      elim (among_or_not c (ready_chans is.pairs.items)) [
        | inl h ↦ updated (counts_in c behind) h (its_way (going false) (going true) 4294967295 x c ways h).updated
        | inr out ↦ subst Both (sym (others (going false) (going true) 4294967295 x c ways out)) (still out)
      ]
