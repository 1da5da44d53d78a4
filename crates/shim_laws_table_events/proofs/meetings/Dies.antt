-- A live process dies of an exception for which it has no handler: the records keep all that they kept.
use Rattle.std.proofs.Common.{◌≡◌, ◌≢◌, ◌<◌, ◌⊎◌, ◌-◌, ℕ, Bool, true, false, Option, Some, None, List, [], ◌∷◌, ◌++◌, map, length, inl, inr, refl, sym, ap, subst, ◌∙◌}
use Rattle.std.specs.Prelude.{slice_get, slice_set, cond}
use Rattle.std.proofs.lemmas.List.{append-nil}
use Rattle.shim_base.specs.Paths.{Path, Channel, same_path}
use Rattle.shim_base.proofs.Facts.{some_same, none_some, true_or_false}
use Rattle.shim_base.proofs.SamePaths.{same_path_is, same_path_refl}
use Rattle.shim_local.specs.Process.{Ops}
use Rattle.shim_local.specs.Laws.{LocalLaws, IsGiven}
use Rattle.shim_semantics.specs.Nodes.{Node, Live, Dead, death, state}
use Rattle.shim_semantics.specs.Places.{at}
use Rattle.shim_semantics.proofs.Replaced.{sound_at}
use Rattle.shim_semantics.specs.Sound.{carriers}
use Rattle.shim_semantics.proofs.HowMany.{clash, no_less}
use Rattle.shim_semantics.proofs.ReplacedNodes.{put}
use Rattle.shim_laws_schedules.proofs.Unshared.{stands_elsewhere}
use Rattle.shim_laws_table.specs.NodeStatus.{lives, forks, dies, place}
use Rattle.shim_laws_table.specs.Agrees.{used, Has, Represents}
use Rattle.shim_laws_table.specs.Places.{IsReplaced}
use Rattle.shim_laws_table.specs.Changes.{HasChanged}
use Rattle.shim_laws_table.specs.Counts.{Tally, ChildStatus as Read}
use Rattle.shim_laws_table.specs.Tallied.{HaveCounts, is_above}
use Rattle.shim_laws_table.specs.Updating.{UpdatedAbove, AreLinked}
use Rattle.shim_laws_table.specs.Dooms.{min_dead_label}
use Rattle.shim_laws_table.specs.LoweredLabels.{Labelled, LabelsOnTheWay, LoweredAbove, at_the_root, uncounted}
use Rattle.shim_laws_table.proofs.SameTrees.{seen_live, seen_fork, put_replaces, same_or_not}
use Rattle.shim_laws_table.proofs.Singles.{single_changes_are_represented}
use Rattle.shim_laws_table.proofs.LabelsLowering.{labels_lowered}
use Rattle.shim_laws_table.proofs.Hanging.{ends_of, given_place, tied, counts_share, none_above}
use Rattle.shim_laws_table.proofs.PlacesAbove.{above_its_own}
use Rattle.shim_records.specs.Pairs.{record_view, up_at, up_in, counts_at, counts_in, min_label_at, min_labels_in, known_at, known_in, rest_of, chans_of, IsOrdered, AreOrdered, status_view}
use Rattle.shim_records.specs.Killed.{living, as_dead}
use Rattle.shim_records.specs.CountingOff.{HasCountedOff, alone, lost, below}
use Rattle.shim_records.specs.UpdatesAbove.{AllUpdatedAbove, none_left, one_more}
use Rattle.shim_records.specs.declared.record.Record.{Record}
use Rattle.shim_records.specs.declared.record.Status.{Status as Stood}
use Rattle.shim_records.specs.declared.record.Status.TheVariants as code
use Rattle.shim_records.proofs.Representing.{map_get}
use Rattle.shim_records.proofs.Stepping.{set_there, set_elsewhere}
use Rattle.shim_records.proofs.ReadOff.{same_views}
use Rattle.shim_records.proofs.FullPropagation.{rest_ups, kept_order}
use Rattle.shim_records.proofs.SharingFound.{rest_known}
use Rattle.shim_records.proofs.ManyPropagations as ways
use Rattle.shim_records.proofs.AllLowered as labels_above
use Rattle.shim_laws_table_events.specs.keeping.Tables.{IsRight, TableInvariant}
use Rattle.shim_laws_table_events.proofs.keeping.Moved.{from_map, set_length}
use Rattle.shim_laws_table_events.proofs.keeping.OneLess.{less_going, at_set, left_known, left_counts, left_labels, left_ups, left_views}
use Rattle.shim_laws_table_events.specs.meetings.Dying.{dead_record, DiesAt}
use Rattle.shim_laws_table_events.specs.meetings.Laws.{DeathPreserves}
use Rattle.shim_laws_table_events.proofs.meetings.Lists.{map_slice_set, same_length, SamePaths, rest_paths, set_paths, both_paths, going_at, rest_going}
use Rattle.shim_laws_table_events.proofs.meetings.Terminates.{one_less}
use Rattle.shim_laws_table_events.proofs.meetings.Replacing.{Both, was_fork, linked, near, labels_begun, have_begun, unread, its_own, walked, unlabelled, keeps}

-- another record with the same pairs, of one that was set
pub set_order : (rs : List Record) (x : ℕ) (r q : Record) → slice_get rs x ≡ Some r → q.pairs ≡ r.pairs → AreOrdered rs → AreOrdered (slice_set rs x q)
set_order rs x r q e same ordered i p h = elim (same_or_not i x) [
  | inl w ↦ subst (λ (z : Record). IsOrdered (chans_of z.pairs.items)) (some_same q p (sym (set_there rs x r q e) ∙ (ap (slice_get (slice_set rs x q)) (sym w) ∙ h))) (subst (λ z. IsOrdered (chans_of z.items)) (sym same) (ordered x r e))
  | inr w ↦ ordered i p (sym (set_elsewhere rs x i q w) ∙ h)
]

-- the number of the first child of a live one
live_first : (g : ℕ) (s : Stood) (f : ℕ) → status_view g s ≡ used f lives → g ≡ f
live_first g code.Free f e = absurd (let z : ⊥ = cc in z)
live_first g code.Live f e = cc
live_first g (code.Forked n) f e = absurd (let z : ⊥ = cc in z)
live_first g code.Ended f e = absurd (let z : ⊥ = cc in z)
live_first g (code.Dead d) f e = absurd (let z : ⊥ = cc in z)

-- what that leaves as it was
module _ (x : ℕ) (before behind : List Record) where
  left_order : HasCountedOff x before behind → AreOrdered before → AreOrdered behind
  left_order (alone e is) h = subst AreOrdered (sym is) h
  left_order (lost j e f is) h = subst AreOrdered (sym is) h
  left_order (below j r e f is) h = subst AreOrdered (sym is) (set_order before j r (less_going r) f refl h)

  left_paths : HasCountedOff x before behind → SamePaths before behind
  left_paths (alone e is) i r h = (r, ap (λ z. slice_get z i) (sym is) ∙ h, refl)
  left_paths (lost j e f is) i r h = (r, ap (λ z. slice_get z i) (sym is) ∙ h, refl)
  left_paths (below j r e f is) i q h = set_paths before j r (less_going r) f refl i q (ap (λ z. slice_get z i) (sym is) ∙ h)

  left_length : HasCountedOff x before behind → length behind ≡ length before
  left_length (alone e is) = ap length is
  left_length (lost j e f is) = ap length is
  left_length (below j r e f is) = ap length is ∙ set_length before j (less_going r)

  no_other : {B : Type 0} (i : ℕ) → up_in before x ≡ None → up_in before x ≡ Some i → B
  no_other i e f = none_some i (sym e ∙ f)

  left_going : HasCountedOff x before behind → (i : ℕ) (r : Record) → slice_get behind i ≡ Some r → (up_in before x ≡ Some i → r.going_children ≡ going_at (slice_get before i) - 1) × (up_in before x ≢ Some i → r.going_children ≡ going_at (slice_get before i))
  left_going (alone e is) i r h = ((λ up. no_other i e up), (λ far. ap going_at (sym h ∙ ap (λ z. slice_get z i) is)))
  left_going (lost j e f is) i r h = (
    (λ up. let same = some_same j i (sym e ∙ up) in none_some r (sym f ∙ (ap (slice_get before) same ∙ (ap (λ z. slice_get z i) (sym is) ∙ h)))),
    (λ far. ap going_at (sym h ∙ ap (λ z. slice_get z i) is)),
  )
  left_going (below j q e f is) i r h = (
    (λ up.
        let same : j ≡ i = some_same j i (sym e ∙ up) in
        let here : slice_get (slice_set before j (less_going q)) i ≡ Some (less_going q) = ap (slice_get (slice_set before j (less_going q))) (sym same) ∙ set_there before j q (less_going q) f in
        ap (λ (z : Record). z.going_children) (some_same r (less_going q) (sym h ∙ (ap (λ z. slice_get z i) is ∙ here)))
        ∙ ap (λ z. going_at z - 1) (sym (ap (slice_get before) (sym same) ∙ f))),
    (λ far. ap going_at (sym h ∙ (ap (λ z. slice_get z i) is ∙ set_elsewhere before j i (less_going q) (λ w. far (e ∙ ap Some (sym w)))))),
  )

module _ {S : Type 0} (o : Ops S) (states : List S) (rs behind : List Record) (x f label : ℕ) (l : S) (has : Has states (map record_view rs) x f l lives) (is_killed : DiesAt o l label 4294967295 x rs behind) where
  abbrev dead : List Record
  dead = slice_set rs x (dead_record is_killed.old_record label)

  -- ---- the records, beside counts and labels

  counted_rest : map rest_of is_killed.counted ≡ map rest_of dead
  counted_rest = ways.rest_same (living o l) (as_dead o l) 4294967295 x is_killed.killed.updated

  labelled_rest : map rest_of is_killed.labelled ≡ map rest_of is_killed.counted
  labelled_rest = labels_above.rest_same label 4294967295 x is_killed.taken.is_lowered

  between : map rest_of is_killed.labelled ≡ map rest_of dead
  between = labelled_rest ∙ counted_rest

  first_is : is_killed.old_record.first ≡ f
  first_is = let r = from_map record_view (slice_get rs x) (used f lives) (sym (map_get record_view rs x) ∙ has.view_is) in
      live_first is_killed.old_record.first is_killed.old_record.status f (ap record_view (some_same is_killed.old_record r.0 (sym is_killed.there ∙ r.1)) ∙ r.2)

  its_view : record_view (dead_record is_killed.old_record label) ≡ used f (dies (death label))
  its_view = ap (λ z. used z (dies (death label))) first_is

  pub views_now : map record_view behind ≡ slice_set (map record_view rs) x (used f (dies (death label)))
  views_now = left_views x is_killed.labelled behind is_killed.left ∙ (same_views dead is_killed.labelled between ∙ (map_slice_set record_view rs x (dead_record is_killed.old_record label) ∙ ap (slice_set (map record_view rs) x) its_view))

  module _ (law : LocalLaws o) (rp : Path) (root : Node S) (kept : TableInvariant o rp (record { states = states; records = rs }) root) (less : label < o.base l) where
    abbrev a : Node S
    a = Dead l (death label)

    there : at (place o rp l) root ≡ Some (Live l)
    there = seen_live (at (place o rp l) root) l (kept.represents.agrees.shown x f l lives has)

    abbrev new : Node S
    new = put (place o rp l) a root

    rep : IsReplaced (place o rp l) (Live l) a root new
    rep = put_replaces (place o rp l) (Live l) a root there

    sound : o.sound l
    sound = sound_at o (place o rp l) root (Live l) kept.represents.sound.below there

    ups_labelled : up_in is_killed.labelled ≡ up_in rs
    ups_labelled = rest_ups dead is_killed.labelled between ∙ (λ t i. at_set up_at rs x is_killed.old_record (dead_record is_killed.old_record label) is_killed.there refl i t)

    ups : up_in behind ≡ up_in rs
    ups = left_ups x is_killed.labelled behind is_killed.left ∙ ups_labelled

    paths : SamePaths rs behind
    paths = both_paths rs is_killed.labelled behind (both_paths rs dead is_killed.labelled (set_paths rs x is_killed.old_record (dead_record is_killed.old_record label) is_killed.there refl) (rest_paths dead is_killed.labelled between)) (left_paths x is_killed.labelled behind is_killed.left)

    ordered : AreOrdered behind
    ordered = left_order x is_killed.labelled behind is_killed.left (kept_order dead is_killed.labelled between (set_order rs x is_killed.old_record (dead_record is_killed.old_record label) is_killed.there refl kept.ordered))

    known_same : (c : Channel) (j : ℕ) → known_in c behind j ≡ known_in c rs j
    known_same c j =
        left_known x is_killed.labelled behind c is_killed.left j
        ∙ (rest_known dead is_killed.labelled between c j ∙ at_set (known_at c) rs x is_killed.old_record (dead_record is_killed.old_record label) is_killed.there refl j)

    as_long : length states ≡ length behind
    as_long = kept.beside ∙ (sym (set_length rs x (dead_record is_killed.old_record label)) ∙ (same_length dead is_killed.labelled between ∙ sym (left_length x is_killed.labelled behind is_killed.left)))

    -- ---- the tree

    mine : Has states (map record_view behind) x f l (dies (death label))
    mine = record { state_is = has.state_is; view_is = ap (λ z. slice_get z x) views_now ∙ set_there (map record_view rs) x (used f lives) (used f (dies (death label))) has.view_is }

    other_views : (j : ℕ) → j ≢ x → slice_get (map record_view behind) j ≡ slice_get (map record_view rs) j
    other_views j n = ap (λ z. slice_get z j) views_now ∙ set_elsewhere (map record_view rs) x j (used f (dies (death label))) n

    changed : HasChanged states states (map record_view rs) (map record_view behind) x l (dies (death label))
    changed = record {
      first = f;
      mine = mine;
      others = λ j g t k n h. record { state_is = h.state_is; view_is = other_views j n ∙ h.view_is };
      only = λ j g t k n h. record { state_is = h.state_is; view_is = sym (other_views j n) ∙ h.view_is };
    }

    shown : Represents o rp states (map record_view behind) new
    shown = (single_changes_are_represented o law).died rp states states (map record_view rs) (map record_view behind) root new x f l (death label) kept.represents has less rep changed

    links : AreLinked states (map record_view behind) (up_in behind)
    links = linked o law rp states states rs behind root new l a x f kept has changed refl refl refl rep shown ups

    -- a channel that it shares and wasn't given is one of its own
    own_or_given : (c : Channel) → o.shares l c ≡ true → (c.home ≡ o.path l) ⊎ IsGiven o l c
    own_or_given c shares = on (same_path c.home (o.path l)) refl (ends_of (place o rp l))
      where
        on : (b : Bool) → same_path c.home (o.path l) ≡ b → (place o rp l ≡ []) ⊎ ((r : List ℕ) × (b : ℕ) × (place o rp l ≡ r ++ b ∷ [])) → (c.home ≡ o.path l) ⊎ IsGiven o l c
        on true e w = inl (same_path_is c.home (o.path l) e)
        on false e (inl w) =
            let is : root ≡ Live l = some_same root (Live l) (ap (λ z. at z root) (sym w) ∙ there) in
            inl (kept.represents.sound.own c (ap (λ z. o.shares (state z) c) is ∙ shares) ∙ ap (λ z. o.path (state z)) is)
        on false e (inr w) = inr (given_place o law root w.0 w.1 (Live l) c kept.represents.sound (ap (λ z. at z root) (sym w.2) ∙ there) (λ far. clash (same_path c.home (o.path l)) (ap (λ z. same_path z (o.path l)) far ∙ same_path_refl (o.path l)) e) shares)

    -- ---- counts

    module _ (c : Channel) where
      abbrev B : (ℕ → Option Tally) → Type 0
      B counts = Both o law rp states states rs behind root new l a x f kept has changed refl refl refl rep shown ups c counts

      counts_dead : counts_in c dead ≡ counts_in c rs
      counts_dead = λ t i. at_set (counts_at c) rs x is_killed.old_record (dead_record is_killed.old_record label) is_killed.there refl i t

      labels_dead : min_labels_in c dead ≡ min_labels_in c rs
      labels_dead = λ t i. at_set (min_label_at c) rs x is_killed.old_record (dead_record is_killed.old_record label) is_killed.there refl i t

      ups_dead : up_in dead ≡ up_in behind
      ups_dead = (λ t i. at_set up_at rs x is_killed.old_record (dead_record is_killed.old_record label) is_killed.there refl i t) ∙ sym ups

      counts_behind : counts_in c behind ≡ counts_in c is_killed.counted
      counts_behind = left_counts x is_killed.labelled behind c is_killed.left ∙ (λ t i. labels_above.counts_same label 4294967295 x c i is_killed.taken.is_lowered t)

      labels_behind : min_labels_in c behind ≡ min_labels_in c is_killed.labelled
      labels_behind = left_labels x is_killed.labelled behind c is_killed.left

      labels_counted : min_labels_in c is_killed.counted ≡ min_labels_in c rs
      labels_counted = (λ t i. labels_stay is_killed.killed.updated i t) ∙ labels_dead
        where
          labels_stay : {cs : List Channel} {before after : List Record} → AllUpdatedAbove (living o l) (as_dead o l) 4294967295 x cs before after → (i : ℕ) → min_labels_in c after i ≡ min_labels_in c before i
          labels_stay (none_left rs) i = refl
          labels_stay (one_more d cs read reads before middle after once w r way more) i = labels_stay more i ∙ way.1.labels c i

      -- it reads nothing of a channel that it doesn't share
      unshared : o.shares l c ≡ false → B (counts_in c rs)
      unshared e = unread o law rp states states rs behind root new l a x f kept has changed refl refl refl rep shown ups c
          (λ i. let r : Read = record { going = e i; ready_on = stands_elsewhere o law c l sound e i; dead_on = sym e i } in r)

      counted_now : B (counts_in c is_killed.counted)
      counted_now = elim (ways.among_or_not c is_killed.killed.chans) [
        | inl g ↦
            walked o law rp states states rs behind root new l a x f kept has changed refl refl refl rep shown ups c (living o l c) (as_dead o l c) (counts_in c is_killed.counted) refl refl (is_killed.killed.shared c g)
            (subst (λ z. UpdatedAbove z 4294967295 4294967295 (counts_in c rs) x (living o l c) (as_dead o l c) (counts_in c is_killed.counted)) ups_dead
            (subst (λ z. UpdatedAbove (up_in dead) 4294967295 4294967295 z x (living o l c) (as_dead o l c) (counts_in c is_killed.counted)) counts_dead
            (ways.its_way (living o l) (as_dead o l) 4294967295 x c is_killed.killed.updated g).updated))
        | inr out ↦ subst B (sym (ways.others (living o l) (as_dead o l) 4294967295 x c is_killed.killed.updated out ∙ counts_dead)) (elim (true_or_false (o.shares l c)) [
          | inl shares ↦ elim (own_or_given c shares) [
            | inl home ↦ its_own o law rp states states rs behind root new l a x f kept has changed refl refl refl rep shown ups c [] (home ∙ sym (append-nil (o.path l)))
            | inr given ↦ absurd (out (is_killed.killed.all c given shares))
          ]
          | inr e ↦ unshared e
        ])
      ]

      -- ---- labels

      abbrev P : List ℕ
      P = place o rp l

      -- for which numbers there are counts follows from the tree alone
      labels_way : LabelsOnTheWay o rp states (map record_view behind) c (counts_in c is_killed.counted) (min_labels_in c rs) root new P
      labels_way i g n s k ks fork some at_it =
          let w = seen_fork (at (place o rp s) new) s n (shown.agrees.shown i g s (forks n) fork) in
          labels_begun o law rp states states rs behind root new l a x f kept has changed refl refl refl rep shown ups c i g n s k ks fork
          ((have_begun o law rp states states rs behind root new l a x f kept has changed refl refl refl rep shown ups c i g n s s w.0 fork w.1).1 ((counted_now.1 i g n s s w.0 fork w.1).0 some)) at_it

      lowers_to : o.shares l c ≡ true → (labels : ℕ → Option ℕ) → LoweredAbove (up_in behind) (counts_in c is_killed.counted) (min_dead_label o c a) 4294967295 (min_labels_in c rs) x labels → Labelled o rp states (map record_view behind) c (counts_in c is_killed.counted) labels new
      lowers_to shares labels is_lowered =
          labels_lowered o law rp states (map record_view behind) (up_in behind) c root new (Live l) a 4294967295 x f l (dies (death label)) (counts_in c is_killed.counted) (min_labels_in c rs) labels shown links mine rep refl shares counted_now.1
          (near o law rp states states rs behind root new l a x f kept has changed refl refl refl rep shown ups) labels_way is_lowered

      its_label : o.shares l c ≡ true → min_dead_label o c a ≡ Some label
      its_label shares = ap (λ b. cond b (Some label) None) shares

      -- no fork above counts one of its own
      own_lowered : c.home ≡ o.path l → LoweredAbove (up_in behind) (counts_in c is_killed.counted) (min_dead_label o c a) 4294967295 (min_labels_in c rs) x (min_labels_in c rs)
      own_lowered home = on (up_in behind x) refl
        where
          no_counts : (j : ℕ) → up_in behind x ≡ Some j → (y : Option Tally) → counts_in c is_killed.counted j ≡ y → counts_in c is_killed.counted j ≡ None
          no_counts j e None is = is
          no_counts j e (Some y) is =
              let w = tied o rp states (map record_view behind) new shown (up_in behind) links x f j l (dies (death label)) mine e in
              let b = w.0 in
              absurd (none_above o rp states (map record_view behind) new shown c x f b.number b.first b.many l b.parent (dies (death label)) [] mine (home ∙ sym (append-nil (o.path l))) b.has (ap (is_above (place o rp b.parent)) b.is ∙ above_its_own (place o rp b.parent) b.branch)
              (counts_share o rp states (map record_view behind) new shown c (counts_in c is_killed.counted) counted_now.1 b.number b.first b.many b.parent y b.has (ap (counts_in c is_killed.counted) w.1 ∙ is)))

          on : (y : Option ℕ) → up_in behind x ≡ y → LoweredAbove (up_in behind) (counts_in c is_killed.counted) (min_dead_label o c a) 4294967295 (min_labels_in c rs) x (min_labels_in c rs)
          on None e = at_the_root 4294967295 (min_labels_in c rs) x e
          on (Some j) e = uncounted 4294967295 (min_labels_in c rs) x j e (no_counts j e (counts_in c is_killed.counted j) refl)

      labelled_now : Labelled o rp states (map record_view behind) c (counts_in c is_killed.counted) (min_labels_in c is_killed.labelled) new
      labelled_now = elim (ways.among_or_not c is_killed.taken.chans) [
        | inl g ↦ let shares = is_killed.taken.shared c g in
            lowers_to shares (min_labels_in c is_killed.labelled)
            (subst (λ z. LoweredAbove (up_in behind) (counts_in c is_killed.counted) z 4294967295 (min_labels_in c rs) x (min_labels_in c is_killed.labelled)) (sym (its_label shares))
            (subst (λ z. LoweredAbove (up_in behind) (counts_in c is_killed.counted) (Some label) 4294967295 z x (min_labels_in c is_killed.labelled)) labels_counted
            (subst (λ z. LoweredAbove z (counts_in c is_killed.counted) (Some label) 4294967295 (min_labels_in c is_killed.counted) x (min_labels_in c is_killed.labelled)) (rest_ups dead is_killed.counted counted_rest ∙ ups_dead)
            (labels_above.its_way label 4294967295 x c is_killed.taken.is_lowered g).way)))
        | inr out ↦ subst (λ z. Labelled o rp states (map record_view behind) c (counts_in c is_killed.counted) z new) (sym (labels_above.others label 4294967295 x c is_killed.taken.is_lowered out ∙ labels_counted)) (elim (true_or_false (o.shares l c)) [
          | inl shares ↦ elim (own_or_given c shares) [
            | inl home ↦ lowers_to shares (min_labels_in c rs) (own_lowered home)
            | inr given ↦ absurd (out (is_killed.taken.all c given shares))
          ]
          | inr e ↦ unlabelled o law rp states states rs behind root new l a x f kept has changed refl refl refl rep shown ups c (counts_in c is_killed.counted) counted_now.1 (ap (λ b. cond b (Some label) None) e)
        ])
      ]

      right : IsRight o rp (record { states = states; records = behind }) new c
      right = record {
        there = subst (λ z. HaveCounts o rp states (map record_view behind) c z new) (sym counts_behind) counted_now.1;
        counts = (subst B (sym counts_behind) counted_now).0;
        labels = subst (λ z. Labelled o rp states (map record_view behind) c z (min_labels_in c behind) new) (sym counts_behind)
            (subst (λ z. Labelled o rp states (map record_view behind) c (counts_in c is_killed.counted) z new) (sym labels_behind) labelled_now);
      }

    -- ---- how many go on

    going_before : (j : ℕ) → going_at (slice_get is_killed.labelled j) ≡ going_at (slice_get rs j)
    going_before j = rest_going dead is_killed.labelled between j ∙ at_set going_at rs x is_killed.old_record (dead_record is_killed.old_record label) is_killed.there refl j

    lessened : (j : ℕ) (r : Record) → slice_get behind j ≡ Some r → (q : Record) × (slice_get rs j ≡ Some q) × (up_in rs x ≡ Some j → r.going_children ≡ q.going_children - 1) × (up_in rs x ≢ Some j → r.going_children ≡ q.going_children)
    lessened j r e =
        let q = paths j r e in
        let w = left_going x is_killed.labelled behind is_killed.left j r e in
        let same : going_at (slice_get is_killed.labelled j) ≡ q.0.going_children = going_before j ∙ ap going_at q.1 in
        let up : up_in is_killed.labelled x ≡ up_in rs x = ap (λ z. z x) ups_labelled in
        (q.0, q.1, (λ u. w.0 (up ∙ u) ∙ ap (λ z. z - 1) same), (λ u. w.1 (λ z. u (sym up ∙ z)) ∙ same))

    pub died : (new : Node S) × IsReplaced (place o rp l) (Live l) a root new × TableInvariant o rp (record { states = states; records = behind }) new
    died = (
      new,
      rep,
      keeps o law rp states states rs behind root new l a x f kept has changed refl refl refl rep shown ups ordered paths as_long known_same (λ c. no_less (carriers o c (Live l))) right
          (one_less o rp states states rs behind root new l a x f kept has refl refl rep (was_fork o law rp states states rs behind root new l a x f kept has changed refl refl refl rep shown ups) lessened),
    )

pub death_preserves : {S : Type 0} (o : Ops S) → LocalLaws o → DeathPreserves o
death_preserves o law rp root states rs behind x f label l kept has less is_killed = died o states rs behind x f label l has is_killed law rp root kept less
