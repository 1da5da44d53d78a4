-- Records of which only that of a process, and those of the forks above it, say something else.
use Rattle.std.proofs.Common.{length, arith, ◌≡◌, ◌≢◌, ◌≤◌, ℕ, suc, ◌-◌, Bool, true, false, Option, Some, List, map, slice_set, inl, inr, refl, sym, ap, subst, ◌∙◌}
use Rattle.std.specs.Prelude.{slice_get}
use Rattle.std.specs.Option.{option_map}
use Rattle.std.proofs.lemmas.List.{length-set}
use Rattle.shim_base.specs.Paths.{Channel, same_channel}
use Rattle.shim_base.proofs.SamePaths.{same_channel_is}
use Rattle.shim_laws_table.specs.Counts.{Tally, ChildStatus as Read}
use Rattle.shim_laws_table.specs.Updating.{UpdatedAbove, too_far, at_top, no_counts, stays, goes_on}
use Rattle.shim_laws_table.specs.LoweredLabels.{LoweredAbove, all_the_way, at_the_root, uncounted, as_low, lowers}
use Rattle.shim_laws_table.specs.Agrees.{RecordView}
use Rattle.shim_laws_table.specs.Recomputing.{Recomputed, all_the_way as all_read, at_the_root as at_root, uncounted as none_counted, as_before, recomputes}
use Rattle.shim_laws_table.proofs.SameTrees.{same_or_not}
use Rattle.shim_local.specs.Process.{Ops}
use Rattle.shim_records.specs.Pairs.{up_in, up_at, rest_of, counts_in, counts_at, min_labels_in, min_label_at}
use Rattle.shim_records.specs.Ways.{IsAbove, its_fork, further, AllCountsMovedWithin, IsUpdatedAbove}
use Rattle.shim_records.specs.Labels.{IsLoweredAbove}
use Rattle.shim_records.specs.Recomputing.{IsRecomputed}
use Rattle.shim_records.specs.CountingOff.{HasCountedOff, alone, lost, below}
use Rattle.shim_records.specs.declared.pair.ChildStatus.{ChildStatus}
use Rattle.shim_records.specs.declared.record.Record.{Record}
use Rattle.shim_records.proofs.Representing.{map_get}
use Rattle.shim_records.proofs.Reaching.{among_more}
use Rattle.shim_records.proofs.Stepping.{set_there, set_elsewhere}
use Rattle.shim_records.proofs.FullPropagation.{rest_ups}
use Rattle.shim_laws_table_events.specs.keeping.Tables.{TableView}
use Rattle.shim_laws_table_events.specs.queues.Requeueing.{IsAsBefore}
use Rattle.shim_laws_table_events.proofs.closes.Saying.{map_length}
use Rattle.shim_process_table.specs.Touching.{ChangesOnlyAbove, IsSameRecord, ChangesOnlyRecords}
use Rattle.shim_process_table.proofs.Above.{above_as}

pub same_record : (before behind : List Record) (i : ℕ) → slice_get behind i ≡ slice_get before i → IsSameRecord before behind i
same_record before behind i e = record { rest = ap (option_map rest_of) e; counts = λ c. ap (counts_at c) e; labels = λ c. ap (min_label_at c) e }

pub says_on : (a b d : List Record) (i : ℕ) → IsSameRecord a b i → IsSameRecord b d i → IsSameRecord a d i
says_on a b d i x y = record { rest = y.rest ∙ x.rest; counts = λ c. y.counts c ∙ x.counts c; labels = λ c. y.labels c ∙ x.labels c }

pub before_on : {S : Type 0} (a b d : TableView S) (i : ℕ) → IsAsBefore a b i → IsAsBefore b d i → IsAsBefore a d i
before_on a b d i x y = record { state = y.state ∙ x.state; rest = y.rest ∙ x.rest; counts = λ c. y.counts c ∙ x.counts c; labels = λ c. y.labels c ∙ x.labels c }

-- ---- one call and the next one

pub touches_none : (n x : ℕ) (before behind : List Record) → behind ≡ before → ChangesOnlyRecords n x before behind
touches_none n x before behind e = record { parents = λ i. ap (λ z. up_in z i) e; as_many = ap length e; others = λ i far out. same_record before behind i (ap (λ z. slice_get z i) e) }

pub touches_on : (n x : ℕ) (a b d : List Record) → ChangesOnlyRecords n x a b → ChangesOnlyRecords n x b d → ChangesOnlyRecords n x a d
touches_on n x a b d g h = record {
  parents = λ i. h.parents i ∙ g.parents i;
  as_many = h.as_many ∙ g.as_many;
  others = λ i far out. says_on a b d i (g.others i far out) (h.others i far (λ w. out (above_as (up_in b) (up_in a) (λ z. sym (g.parents z)) w)));
}

-- where these forks are among those
pub touches_as : (m n x : ℕ) (before behind : List Record) → ((i : ℕ) → IsAbove (up_in before) m x i → IsAbove (up_in before) n x i) → ChangesOnlyRecords m x before behind → ChangesOnlyRecords n x before behind
touches_as m n x before behind among touches = record { parents = touches.parents; as_many = touches.as_many; others = λ i far out. touches.others i far (λ w. out (among i w)) }

pub touches_more : (m n x : ℕ) (before behind : List Record) → m ≤ n → ChangesOnlyRecords m x before behind → ChangesOnlyRecords n x before behind
touches_more m n x before behind less touches = touches_as m n x before behind (λ i w. among_more (up_in before) n less w) touches

-- another record with the same parent was put there
pub touches_set : (n x : ℕ) (rs : List Record) (r q : Record) → slice_get rs x ≡ Some r → q.parent ≡ r.parent → ChangesOnlyRecords n x rs (slice_set rs x q)
touches_set n x rs r q e same = record {
  parents = λ i. elim (same_or_not i x) [
    | inl w ↦ ap (up_in (slice_set rs x q)) w ∙ (ap up_at (set_there rs x r q e) ∙ (same ∙ (sym (ap up_at e) ∙ ap (up_in rs) (sym w))))
    | inr w ↦ ap up_at (set_elsewhere rs x i q w)
  ];
  as_many = length-set rs x q;
  others = λ i far out. same_record rs (slice_set rs x q) i (set_elsewhere rs x i q far);
}

-- with the states
pub touches_above : {S : Type 0} (n x : ℕ) (before behind : TableView S) → ChangesOnlyRecords n x before.records behind.records → ((i : ℕ) → i ≢ x → slice_get behind.states i ≡ slice_get before.states i) → ChangesOnlyAbove n x before behind
touches_above n x before behind touches same = record {
  others = λ i f s k has far out.
      let w = touches.others i far (λ h. out (above_as (up_in before.records) (up_in behind.records) touches.parents h)) in
      record { state = same i far; rest = w.rest; counts = w.counts; labels = w.labels };
  no_more = let e = touches.as_many in omega (arith, e);
}

-- ---- the way up for a channel

-- so many forks have other counts, and one more where the last one is read as before
module _ (up : ℕ → Option ℕ) where
  updated_above : {most n x : ℕ} {was is : Read} {before behind : ℕ → Option Tally} → UpdatedAbove up most n before x was is behind → (i : ℕ) → (IsAbove up (suc n) x i → ⊥) → behind i ≡ before i
  updated_above (too_far before x was is) i out = refl
  updated_above (at_top n before x was is top) i out = refl
  updated_above (no_counts n before x j was is e none) i out = refl
  updated_above (stays n before behind x j was is y z e moved same) i out = moved.others i (λ w. out (subst (IsAbove up (suc n) x) (sym w) (its_fork n x j e)))
  updated_above (goes_on n before between behind x j was is y z e moved more) i out = updated_above more i (λ w. out (further (suc n) x j i e w)) ∙ moved.others i (λ w. out (subst (IsAbove up (suc (suc n)) x) (sym w) (its_fork (suc n) x j e)))

  lowered_above : {counts : ℕ → Option Tally} {y : Option ℕ} {n x : ℕ} {before behind : ℕ → Option ℕ} → LoweredAbove up counts y n before x behind → (i : ℕ) → (IsAbove up n x i → ⊥) → behind i ≡ before i
  lowered_above (all_the_way before x) i out = refl
  lowered_above (at_the_root n before x top) i out = refl
  lowered_above (uncounted n before x j e none) i out = refl
  lowered_above (as_low n before x j e some low) i out = refl
  lowered_above (lowers n before between behind x j e some lowered more) i out = lowered_above more i (λ w. out (further n x j i e w)) ∙ lowered.others i (λ w. out (subst (IsAbove up (suc n) x) (sym w) (its_fork n x j e)))

  recomputed_above : {S : Type 0} {o : Ops S} {c : Channel} {states : List S} {views : List RecordView} {counts : ℕ → Option Tally} {n x : ℕ} {before behind : ℕ → Option ℕ}
      → Recomputed o c states views up counts n before x behind → (i : ℕ) → (IsAbove up n x i → ⊥) → behind i ≡ before i
  recomputed_above (all_read before x) i out = refl
  recomputed_above (at_root n before x top) i out = refl
  recomputed_above (none_counted n before x j e none) i out = refl
  recomputed_above (as_before n before x j e some read) i out = refl
  recomputed_above (recomputes n before between behind x j e some read others more) i out = recomputed_above more i (λ w. out (further n x j i e w)) ∙ others i (λ w. out (subst (IsAbove up (suc n) x) (sym w) (its_fork n x j e)))

-- of one channel something is the same, and of each other one
same_all : {A : Type 0} (c : Channel) (x y : Channel → A) → x c ≡ y c → ((d : Channel) → same_channel c d ≡ false → x d ≡ y d) → (d : Channel) → x d ≡ y d
same_all c x y here elsewhere d = on (same_channel c d) refl
  where
    on : (b : Bool) → same_channel c d ≡ b → x d ≡ y d
    on true e = subst (λ z. x z ≡ y z) (same_channel_is c d e) here
    on false e = elsewhere d e

pub rest_at : (before behind : List Record) (i : ℕ) → map rest_of behind ≡ map rest_of before → option_map rest_of (slice_get behind i) ≡ option_map rest_of (slice_get before i)
rest_at before behind i e = sym (map_get rest_of behind i) ∙ (ap (λ z. slice_get z i) e ∙ map_get rest_of before i)

pub rest_parents : (before behind : List Record) → map rest_of behind ≡ map rest_of before → (i : ℕ) → up_in behind i ≡ up_in before i
rest_parents before behind e i = ap (λ u. u i) (rest_ups before behind e)

pub rest_long : (before behind : List Record) → map rest_of behind ≡ map rest_of before → length behind ≡ length before
rest_long before behind e = sym (map_length rest_of behind) ∙ (ap length e ∙ map_length rest_of before)

pub counts_above : (c : Channel) (n x : ℕ) (was is : ChildStatus) (before behind : List Record) → IsUpdatedAbove c n x was is before behind → ChangesOnlyRecords (suc n) x before behind
counts_above c n x was is before behind way = record {
  parents = rest_parents before behind way.1.rest;
  as_many = rest_long before behind way.1.rest;
  others = λ i far out. record {
    rest = rest_at before behind i way.1.rest;
    counts = same_all c (λ d. counts_in d behind i) (λ d. counts_in d before i) (updated_above (up_in before) way.0 i out) (λ d other. way.1.elsewhere d other i);
    labels = λ d. way.1.labels d i;
  };
}

-- where it is known how far the updates led
pub counts_reach : (m x : ℕ) (before behind : List Record) → map rest_of behind ≡ map rest_of before → ((c : Channel) (i : ℕ) → min_labels_in c behind i ≡ min_labels_in c before i) → AllCountsMovedWithin m x before behind → ChangesOnlyRecords m x before behind
counts_reach m x before behind same labels moves = record {
  parents = rest_parents before behind same;
  as_many = rest_long before behind same;
  others = λ i far out. record { rest = rest_at before behind i same; counts = λ c. moves c i out; labels = λ c. labels c i };
}

pub labels_above : (c : Channel) (y n x : ℕ) (before behind : List Record) → IsLoweredAbove c y n x before behind → ChangesOnlyRecords n x before behind
labels_above c y n x before behind way = record {
  parents = rest_parents before behind way.1.rest;
  as_many = rest_long before behind way.1.rest;
  others = λ i far out. record {
    rest = rest_at before behind i way.1.rest;
    counts = λ d. way.1.counts d i;
    labels = same_all c (λ d. min_labels_in d behind i) (λ d. min_labels_in d before i) (lowered_above (up_in before) way.0 i out) (λ d other. way.1.elsewhere d other i);
  };
}

pub reads_off : {S : Type 0} (o : Ops S) (c : Channel) (states : List S) (n x : ℕ) (before behind : List Record) → IsRecomputed o c states n x before behind → ChangesOnlyRecords n x before behind
reads_off o c states n x before behind way = record {
  parents = rest_parents before behind way.1.rest;
  as_many = rest_long before behind way.1.rest;
  others = λ i far out. record {
    rest = rest_at before behind i way.1.rest;
    counts = λ d. way.1.counts d i;
    labels = same_all c (λ d. min_labels_in d behind i) (λ d. min_labels_in d before i) (recomputed_above (up_in before) way.0 i out) (λ d other. way.1.elsewhere d other i);
  };
}

-- ---- one child less that goes on

pub counting_off : (x : ℕ) (before behind : List Record) → HasCountedOff x before behind → ChangesOnlyRecords 1 x before behind
counting_off x before behind (alone top e) = touches_none 1 x before behind e
counting_off x before behind (lost j up none e) = touches_none 1 x before behind e
counting_off x before behind (below j r up there e) =
    let now = touches_set 1 j before r (record { status = r.status; first = r.first; parent = r.parent; path = r.path; going_children = r.going_children - 1; pairs = r.pairs }) there refl in
    subst (ChangesOnlyRecords 1 x before) (sym e) (record {
      parents = now.parents;
      as_many = now.as_many;
      others = λ i far out. same_record before (slice_set before j less) i (set_elsewhere before j i less (λ w. out (subst (IsAbove (up_in before) 1 x) (sym w) (its_fork 0 x j up))));
    })
  where
    less : Record
    less = record { status = r.status; first = r.first; parent = r.parent; path = r.path; going_children = r.going_children - 1; pairs = r.pairs }
