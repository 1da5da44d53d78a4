-- Records of which one has a child less that goes on: what all of them say beside that is as before.
use Rattle.std.proofs.Common.{◌≡◌, ◌-◌, ℕ, Option, Some, List, [], ◌∷◌, map, slice_set, inl, inr, refl, sym, ap, ◌∙◌}
use Rattle.std.specs.Prelude.{slice_get}
use Rattle.std.specs.Option.{option_map}
use Rattle.shim_base.specs.Paths.{Channel}
use Rattle.shim_laws_table.proofs.SameTrees.{same_or_not}
use Rattle.shim_records.specs.Pairs.{up_in, counts_at, counts_in, min_label_at, min_labels_in, up_at, record_view, rest_of, UncountedRecord, known_at, known_in}
use Rattle.shim_records.specs.CountingOff.{HasCountedOff, alone, lost, below}
use Rattle.shim_records.specs.declared.record.Record.{Record}
use Rattle.shim_records.proofs.Stepping.{set_there, set_elsewhere, map_set}
use Rattle.shim_records.proofs.Representing.{map_get}
use Rattle.shim_laws_table_events.proofs.keeping.Moved.{from_map}

abbrev pub less_going : Record → Record
less_going r = record { status = r.status; first = r.first; parent = r.parent; path = r.path; going_children = r.going_children - 1; pairs = r.pairs }

-- what is read of each place, where another record that says the same of it is put in one
pub at_set : {X : Type 0} (G : Option Record → X) (rs : List Record) (x : ℕ) (r q : Record) → slice_get rs x ≡ Some r → G (Some q) ≡ G (Some r) → (i : ℕ) → G (slice_get (slice_set rs x q) i) ≡ G (slice_get rs i)
at_set G rs x r q e same i = elim (same_or_not i x) [
  | inl w ↦ ap (λ z. G (slice_get (slice_set rs x q) z)) w ∙ (ap G (set_there rs x r q e) ∙ (same ∙ (sym (ap G e) ∙ sym (ap (λ z. G (slice_get rs z)) w))))
  | inr w ↦ ap G (set_elsewhere rs x i q w)
]

-- a record of which something is said, among others that say it alike
pub found : {X : Type 0} (F : Record → X) (before behind : List Record) (i : ℕ) (r : Record) → map F behind ≡ map F before → slice_get behind i ≡ Some r → (q : Record) × (slice_get before i ≡ Some q) × (F q ≡ F r)
found F before behind i r h e = from_map F (slice_get before i) (F r) (sym (map_get F before i) ∙ (ap (λ z. slice_get z i) (sym h) ∙ (map_get F behind i ∙ ap (option_map F) e)))

-- what records say beside their counts, by parts
pub by_rest : {X : Type 0} (G : UncountedRecord → X) (rs : List Record) → map G (map rest_of rs) ≡ map (λ r. G (rest_of r)) rs
by_rest G [] = refl
by_rest G (r ∷ rs) = ap (λ z. G (rest_of r) ∷ z) (by_rest G rs)

pub same_rest : {X : Type 0} (G : UncountedRecord → X) (before behind : List Record) → map rest_of behind ≡ map rest_of before → map (λ r. G (rest_of r)) behind ≡ map (λ r. G (rest_of r)) before
same_rest G before behind h = sym (by_rest G behind) ∙ (ap (map G) h ∙ by_rest G before)

module _ (x : ℕ) (before behind : List Record) where
  -- what a record says beside how many go on
  pub all_say : {X : Type 0} (F : Record → X) → ((r : Record) → F (less_going r) ≡ F r) → HasCountedOff x before behind → map F behind ≡ map F before
  all_say F same (alone e h) = ap (map F) h
  all_say F same (lost j e f h) = ap (map F) h
  all_say F same (below j r e f h) = ap (map F) h ∙ map_set F before j r (less_going r) f (same r)

  each_says : {X : Type 0} (G : Option Record → X) → ((r : Record) → G (Some (less_going r)) ≡ G (Some r)) → HasCountedOff x before behind → (i : ℕ) → G (slice_get behind i) ≡ G (slice_get before i)
  each_says G same (alone e h) i = ap (λ z. G (slice_get z i)) h
  each_says G same (lost j e f h) i = ap (λ z. G (slice_get z i)) h
  each_says G same (below j r e f h) i = ap (λ z. G (slice_get z i)) h ∙ at_set G before j r (less_going r) f (same r) i

  pub left_counts : (c : Channel) → HasCountedOff x before behind → counts_in c behind ≡ counts_in c before
  left_counts c h = λ t i. each_says (counts_at c) (λ r. refl) h i t

  pub left_labels : (c : Channel) → HasCountedOff x before behind → min_labels_in c behind ≡ min_labels_in c before
  left_labels c h = λ t i. each_says (min_label_at c) (λ r. refl) h i t

  pub left_known : (c : Channel) → HasCountedOff x before behind → (i : ℕ) → known_in c behind i ≡ known_in c before i
  left_known c h i = each_says (known_at c) (λ r. refl) h i

  pub left_ups : HasCountedOff x before behind → up_in behind ≡ up_in before
  left_ups h = λ t i. each_says up_at (λ r. refl) h i t

  pub left_views : HasCountedOff x before behind → map record_view behind ≡ map record_view before
  left_views h = all_say record_view (λ r. refl) h
