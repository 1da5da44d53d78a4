-- Lists of records with one set, and lists that say the same beside counts and labels.
use Rattle.std.proofs.Common.{◌≡◌, ℕ, zero, suc, Option, Some, None, List, [], ◌∷◌, map, length, inl, inr, refl, sym, ap, ◌∙◌}
use Rattle.std.specs.Prelude.{slice_get, slice_set}
use Rattle.std.specs.Option.{option_map}
use Rattle.shim_base.proofs.Facts.{some_same}
use Rattle.shim_laws_table.proofs.SameTrees.{same_or_not}
use Rattle.shim_records.specs.Pairs.{rest_of, UncountedRecord}
use Rattle.shim_records.specs.declared.record.Record.{Record}
use Rattle.shim_records.proofs.Stepping.{set_there, set_elsewhere}
use Rattle.shim_records.proofs.Representing.{map_get}
use Rattle.shim_laws_table_events.proofs.keeping.Moved.{map_length, was_record}

pub map_slice_set : {A B : Type 0} (f : A → B) (xs : List A) (i : ℕ) (x : A) → map f (slice_set xs i x) ≡ slice_set (map f xs) i (f x)
map_slice_set f [] i x = refl
map_slice_set f (y ∷ xs) zero x = refl
map_slice_set f (y ∷ xs) (suc i) x = ap (λ z. f y ∷ z) (map_slice_set f xs i x)

pub same_length : (before behind : List Record) → map rest_of behind ≡ map rest_of before → length before ≡ length behind
same_length before behind rest = sym (map_length rest_of before) ∙ (ap length (sym rest) ∙ map_length rest_of behind)

-- the records have the paths that they had
abbrev pub SamePaths : List Record → List Record → Type 0
SamePaths before behind = (i : ℕ) (r : Record) → slice_get behind i ≡ Some r → (q : Record) × (slice_get before i ≡ Some q) × (q.path ≡ r.path)

pub rest_paths : (before behind : List Record) → map rest_of behind ≡ map rest_of before → SamePaths before behind
rest_paths before behind rest i r e = let q = was_record before behind i r rest e in (q.0, q.1, ap (λ (z : UncountedRecord). z.path) q.2)

pub set_paths : (rs : List Record) (x : ℕ) (r q : Record) → slice_get rs x ≡ Some r → q.path ≡ r.path → SamePaths rs (slice_set rs x q)
set_paths rs x r q e same i p h = elim (same_or_not i x) [
  | inl w ↦ (r, ap (slice_get rs) w ∙ e, sym same ∙ ap (λ (z : Record). z.path) (some_same q p (sym (set_there rs x r q e) ∙ (ap (slice_get (slice_set rs x q)) (sym w) ∙ h))))
  | inr w ↦ (p, sym (set_elsewhere rs x i q w) ∙ h, refl)
]

pub both_paths : (a b d : List Record) → SamePaths a b → SamePaths b d → SamePaths a d
both_paths a b d f g i r e = let y = g i r e in let z = f i y.0 y.1 in (z.0, z.1, z.2 ∙ y.2)

-- how many children go on, by the record of a fork
abbrev pub going_at : Option Record → ℕ
going_at None = 0
going_at (Some r) = r.going_children

abbrev going_rest : Option UncountedRecord → ℕ
going_rest None = 0
going_rest (Some r) = r.going_children

by_rest : (x : Option Record) → going_at x ≡ going_rest (option_map rest_of x)
by_rest None = refl
by_rest (Some r) = refl

pub rest_going : (before behind : List Record) → map rest_of behind ≡ map rest_of before → (i : ℕ) → going_at (slice_get behind i) ≡ going_at (slice_get before i)
rest_going before behind rest i = by_rest (slice_get behind i) ∙ (ap going_rest (sym (map_get rest_of behind i) ∙ (ap (λ z. slice_get z i) rest ∙ map_get rest_of before i)) ∙ sym (by_rest (slice_get before i)))
