-- What records say of a tree, by a part of what is in them.
use Rattle.std.proofs.Common.{◌≡◌, ◌≢◌, ◌-◌, ℕ, suc, Option, Some, None, List, [], ◌∷◌, map, length, refl, sym, ap, subst, ◌∙◌}
use Rattle.std.specs.Prelude.{slice_get}
use Rattle.std.specs.Option.{option_map}
use Rattle.shim_base.specs.Paths.{Path, Channel}
use Rattle.shim_base.proofs.Facts.{some_same, none_some}
use Rattle.shim_laws_table.specs.Agrees.{RecordView}
use Rattle.shim_laws_table.specs.Counts.{Tally}
use Rattle.shim_laws_table.specs.NodeStatus.{ProcessStatus, lives, forks, ends, dies}
use Rattle.shim_laws_table_events.specs.closes.Closing.{CountsOffIfOver}
use Rattle.shim_records.specs.CountingOff.{HasCountedOff, alone, lost, below}
use Rattle.shim_records.specs.Pairs.{record_view, up_at, up_in, counts_at, counts_in, min_label_at, min_labels_in, tally_for, min_label_of, pair_of, chans_of, IsOrdered, AreOrdered}
use Rattle.shim_records.specs.declared.pair.Pair.{Pair}
use Rattle.shim_records.specs.declared.record.Record.{Record}
use Rattle.shim_records.proofs.Representing.{map_get}
use Rattle.shim_records.proofs.Stepping.{map_set, set_there, set_elsewhere}

pub from_map : {A B : Type 0} (f : A → B) (x : Option A) (y : B) → option_map f x ≡ Some y → (z : A) × (x ≡ Some z) × (f z ≡ y)
from_map f None y e = none_some y e
from_map f (Some z) y e = (z, refl, some_same (f z) y e)

pub map_length : {A B : Type 0} (f : A → B) (xs : List A) → length (map f xs) ≡ length xs
map_length f [] = refl
map_length f (x ∷ xs) = ap suc (map_length f xs)

-- what items say in two lists that say the same
pub said_alike : {A B : Type 0} (f : A → B) (before behind : List A) → map f behind ≡ map f before → (i : ℕ) → option_map f (slice_get behind i) ≡ option_map f (slice_get before i)
said_alike f before behind h i = sym (map_get f behind i) ∙ (ap (λ z. slice_get z i) h ∙ map_get f before i)

-- the item before
pub was_item : {A B : Type 0} (f : A → B) (before behind : List A) → map f behind ≡ map f before → (i : ℕ) (r : A) → slice_get behind i ≡ Some r → (q : A) × (slice_get before i ≡ Some q) × (f q ≡ f r)
was_item f before behind h i r e = from_map f (slice_get before i) (f r) (sym (said_alike f before behind h i) ∙ ap (option_map f) e)

-- a record without the count of its running children
pub record RecordBody : Type 0 where
  pub view : RecordView
  pub parent : Option ℕ
  pub path : Path
  pub pairs : List Pair

abbrev pub record_body : Record → RecordBody
record_body r = record { view = record_view r; parent = r.parent; path = r.path; pairs = r.pairs.items }

-- ---- counts, labels and parents that follow from that

abbrev pub counts_of : Channel → Option (List Pair) → Option Tally
counts_of c None = None
counts_of c (Some ps) = tally_for c ps

abbrev pub labels_of : Channel → Option (List Pair) → Option ℕ
labels_of c None = None
labels_of c (Some ps) = min_label_of (pair_of c ps)

abbrev pub pairs_in : Record → List Pair
pairs_in r = r.pairs.items

pub counts_of_pairs : (c : Channel) (x : Option Record) → counts_at c x ≡ counts_of c (option_map pairs_in x)
counts_of_pairs c None = refl
counts_of_pairs c (Some r) = refl

pub labels_of_pairs : (c : Channel) (x : Option Record) → min_label_at c x ≡ labels_of c (option_map pairs_in x)
labels_of_pairs c None = refl
labels_of_pairs c (Some r) = refl

abbrev parent_of : Option (Option ℕ) → Option ℕ
parent_of None = None
parent_of (Some p) = p

pub parent_of_body : (x : Option Record) → up_at x ≡ parent_of (option_map (λ r. r.parent) x)
parent_of_body None = refl
parent_of_body (Some r) = refl

both_parts : {A B C : Type 0} (f : A → B) (h : B → C) (x : Option A) → option_map h (option_map f x) ≡ option_map (λ z. h (f z)) x
both_parts f h None = refl
both_parts f h (Some z) = refl

-- a part of what is said
pub part : {A B C : Type 0} (f : A → B) (h : B → C) (x y : Option A) → option_map f x ≡ option_map f y → option_map (λ z. h (f z)) x ≡ option_map (λ z. h (f z)) y
part f h x y e = sym (both_parts f h x) ∙ (ap (option_map h) e ∙ both_parts f h y)

pub same_counts_at : (c : Channel) (x y : Option Record) → option_map pairs_in x ≡ option_map pairs_in y → counts_at c x ≡ counts_at c y
same_counts_at c x y e = counts_of_pairs c x ∙ (ap (counts_of c) e ∙ sym (counts_of_pairs c y))

pub same_labels_at : (c : Channel) (x y : Option Record) → option_map pairs_in x ≡ option_map pairs_in y → min_label_at c x ≡ min_label_at c y
same_labels_at c x y e = labels_of_pairs c x ∙ (ap (labels_of c) e ∙ sym (labels_of_pairs c y))

pub same_parent_at : (x y : Option Record) → option_map (λ r. r.parent) x ≡ option_map (λ r. r.parent) y → up_at x ≡ up_at y
same_parent_at x y e = parent_of_body x ∙ (ap parent_of e ∙ sym (parent_of_body y))

views_as_body : (rs : List Record) → map (λ (z : RecordBody). z.view) (map record_body rs) ≡ map record_view rs
views_as_body [] = refl
views_as_body (r ∷ rs) = ap (λ z. record_view r ∷ z) (views_as_body rs)

module _ (before behind : List Record) (h : map record_body behind ≡ map record_body before) where
  pub views_alike : map record_view behind ≡ map record_view before
  views_alike = sym (views_as_body behind) ∙ (ap (map (λ (z : RecordBody). z.view)) h ∙ views_as_body before)

  pub said_ups : up_in behind ≡ up_in before
  said_ups = λ t i. same_parent_at (slice_get behind i) (slice_get before i) (part record_body (λ (z : RecordBody). z.parent) (slice_get behind i) (slice_get before i) (said_alike record_body before behind h i)) t

  pub said_counts : (c : Channel) → counts_in c behind ≡ counts_in c before
  said_counts c = λ t i. same_counts_at c (slice_get behind i) (slice_get before i) (part record_body (λ (z : RecordBody). z.pairs) (slice_get behind i) (slice_get before i) (said_alike record_body before behind h i)) t

  pub said_labels : (c : Channel) → min_labels_in c behind ≡ min_labels_in c before
  said_labels c = λ t i. same_labels_at c (slice_get behind i) (slice_get before i) (part record_body (λ (z : RecordBody). z.pairs) (slice_get behind i) (slice_get before i) (said_alike record_body before behind h i)) t

  pub said_order : AreOrdered before → AreOrdered behind
  said_order ordered i r e = let w = was_item record_body before behind h i r e in subst (λ z. IsOrdered (chans_of z)) (ap (λ (z : RecordBody). z.pairs) w.2) (ordered i w.0 w.1)

-- ---- a child that goes on no more

pub left_said : (x : ℕ) (before behind : List Record) → HasCountedOff x before behind → map record_body behind ≡ map record_body before
left_said x before behind (alone e same) = ap (map record_body) same
left_said x before behind (lost j up e same) = ap (map record_body) same
left_said x before behind (below j r up e same) = ap (map record_body) same ∙ map_set record_body before j r (record { status = r.status; first = r.first; parent = r.parent; path = r.path; going_children = r.going_children - 1; pairs = r.pairs }) e refl

pub leaves_said : (k : ProcessStatus) (x : ℕ) (before behind : List Record) → CountsOffIfOver k x before behind → map record_body behind ≡ map record_body before
leaves_said lives x before behind e = ap (map record_body) e
leaves_said (forks n) x before behind e = ap (map record_body) e
leaves_said ends x before behind e = left_said x before behind e
leaves_said (dies d) x before behind e = left_said x before behind e

-- so many children of another fork than its parent go on as before
pub going_elsewhere : (x : ℕ) (before behind : List Record) → HasCountedOff x before behind → (j : ℕ) → up_in before x ≢ Some j → slice_get behind j ≡ slice_get before j
going_elsewhere x before behind (alone e same) j far = ap (λ z. slice_get z j) same
going_elsewhere x before behind (lost h up e same) j far = ap (λ z. slice_get z j) same
going_elsewhere x before behind (below h r up e same) j far =
    ap (λ z. slice_get z j) same
    ∙ set_elsewhere before h j (record { status = r.status; first = r.first; parent = r.parent; path = r.path; going_children = r.going_children - 1; pairs = r.pairs }) (λ w. far (up ∙ ap Some (sym w)))

-- and one less of that
pub going_less : (x : ℕ) (before behind : List Record) → HasCountedOff x before behind → (j : ℕ) (q r : Record) → up_in before x ≡ Some j → slice_get before j ≡ Some q → slice_get behind j ≡ Some r → r.going_children ≡ q.going_children - 1
going_less x before behind (alone e same) j q r up was is = none_some j (sym e ∙ up)
going_less x before behind (lost h above e same) j q r up was is =
    none_some q (sym e ∙ (ap (slice_get before) (some_same h j (sym above ∙ up)) ∙ was))
going_less x before behind (below h p above e same) j q r up was is =
    let new : Record = record { status = p.status; first = p.first; parent = p.parent; path = p.path; going_children = p.going_children - 1; pairs = p.pairs } in
    let w : h ≡ j = some_same h j (sym above ∙ up) in
    let now : slice_get behind h ≡ Some new = ap (λ z. slice_get z h) same ∙ set_there before h p new e in
    let is_new : new ≡ r = some_same new r (sym now ∙ (ap (slice_get behind) w ∙ is)) in
    let is_old : p ≡ q = some_same p q (sym e ∙ (ap (slice_get before) w ∙ was)) in
    ap (λ (z : Record). z.going_children) (sym is_new) ∙ ap (λ (z : Record). z.going_children - 1) is_old
