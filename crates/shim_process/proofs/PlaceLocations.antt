-- What is at a number of locations that were changed.
use Rattle.std.proofs.Common.{◌≡◌, ◌∙◌, ℕ, ℤ, zero, suc, ◌+◌, ◌⊎◌, inl, inr, List, [], ◌∷◌, ◌++◌, length, take, Option, Some, None, refl, ap, arith}
use Rattle.std.specs.Prelude.{slice_get, slice_set}
use Rattle.shim_syntax.specs.declared.tree.Sort.{Sort}
use Rattle.shim_process.specs.Locations.{Location, Locations, flattened, at_number, with_value, store_at}
use Rattle.shim_process.specs.Arguments.{empties}
use Rattle.shim_base.proofs.Facts.{some_same}

-- a location was at this number, on the same channel and with the same ownership
pub record Was (locations : Locations) (n : ℕ) (x : Location) : Type 0 where
  pub location : Location
  pub there : at_number locations n ≡ Some location
  pub channel : location.channel ≡ x.channel
  pub ownership : location.ownership ≡ x.ownership

pub flattened_is : (o : Option (Option Location)) (x : Location) → flattened o ≡ Some x → o ≡ Some (Some x)
flattened_is None x e = absurd (cc)
flattened_is (Some l) x e = ap Some e

get_take : {A : Type 0} (xs : List A) (k n : ℕ) (a : A) → slice_get (take k xs) n ≡ Some a → slice_get xs n ≡ Some a
get_take xs zero n a e = absurd (cc)
get_take [] (suc k) n a e = e
get_take (x ∷ xs) (suc k) zero a e = e
get_take (x ∷ xs) (suc k) (suc n) a e = get_take xs k n a e

-- in a front
pub at_take : (locations : Locations) (k n : ℕ) (x : Location) → at_number (take k locations) n ≡ Some x → at_number locations n ≡ Some x
unfolding at_number
at_take locations k n x e = ap flattened (get_take locations k n (Some x) (flattened_is _ x e))

get_set : {A : Type 0} (xs : List A) (i j : ℕ) (a b : A) → slice_get (slice_set xs i a) j ≡ Some b → ((j ≡ i) × (a ≡ b)) ⊎ (slice_get xs j ≡ Some b)
get_set [] i j a b e = inr e
get_set (x ∷ xs) zero zero a b e = inl (refl, some_same a b e)
get_set (x ∷ xs) zero (suc j) a b e = inr e
get_set (x ∷ xs) (suc i) zero a b e = inr e
get_set (x ∷ xs) (suc i) (suc j) a b e = elim (get_set xs i j a b e) [ inl h ↦ inl (ap suc h.0, h.1) | inr h ↦ inr h ]

-- where one was set
pub at_set : (locations : Locations) (n k : ℕ) (o : Option Location) (x : Location) → at_number (slice_set locations n o) k ≡ Some x → ((k ≡ n) × (o ≡ Some x)) ⊎ (at_number locations k ≡ Some x)
unfolding at_number
at_set locations n k o x e = elim (get_set locations n k o (Some x) (flattened_is _ x e)) [ inl h ↦ inl h | inr h ↦ inr (ap flattened h) ]

with_was : (v : ℤ) (o : Option Location) (x : Location) → with_value v o ≡ Some x → (y : Location) × (o ≡ Some y) × (y.channel ≡ x.channel) × (y.ownership ≡ x.ownership)
with_was v None x e = absurd (cc)
with_was v (Some l) x e = let same = some_same _ x e in (l, refl, ap (λ (r : Location). r.channel) same, ap (λ (r : Location). r.ownership) same)

pub was_there : (locations : Locations) (n : ℕ) (x : Location) → at_number locations n ≡ Some x → Was locations n x
was_there locations n x e = record { location = x; there = e; channel = refl; ownership = refl }

-- where a value was stored
pub at_store : (locations : Locations) (n : ℕ) (v : ℤ) (k : ℕ) (x : Location) → at_number (store_at locations n v) k ≡ Some x → Was locations k x
unfolding store_at
at_store locations n v k x e = elim (at_set locations n k (with_value v (at_number locations n)) x e) [
  | inl h ↦ let w = with_was v (at_number locations n) x h.1 in record { location = w.0; there = ap (at_number locations) h.0 ∙ w.1; channel = w.2; ownership = w.3 }
  | inr h ↦ was_there locations k x h
]

get_append : {A : Type 0} (xs ys : List A) (n : ℕ) (a : A) → slice_get (xs ++ ys) n ≡ Some a → (slice_get xs n ≡ Some a) ⊎ ((j : ℕ) × (n ≡ length xs + j) × (slice_get ys j ≡ Some a))
get_append [] ys n a e = inr (n, (let w : n ≡ 0 + n = omega arith in w), e)
get_append (x ∷ xs) ys zero a e = inl e
get_append (x ∷ xs) ys (suc n) a e = elim (get_append xs ys n a e) [ inl h ↦ inl h | inr h ↦ inr (h.0, (let w = h.1 in omega (arith, w)), h.2) ]

-- after others
pub at_append : (first second : Locations) (n : ℕ) (x : Location) → at_number (first ++ second) n ≡ Some x → (at_number first n ≡ Some x) ⊎ ((j : ℕ) × (n ≡ length first + j) × (at_number second j ≡ Some x))
unfolding at_number
at_append first second n x e = elim (get_append first second n (Some x) (flattened_is _ x e)) [ inl h ↦ inl (ap flattened h) | inr h ↦ inr (h.0, h.1, ap flattened h.2) ]

get_empty : (sorts : List Sort) (n : ℕ) (x : Location) → slice_get (empties sorts) n ≡ Some (Some x) → ⊥
get_empty [] n x e = absurd (cc)
get_empty (s ∷ sorts) zero x e = let same = some_same None (Some x) e in absurd (cc)
get_empty (s ∷ sorts) (suc n) x e = get_empty sorts n x e

-- nothing is in an empty one
pub at_empty : (sorts : List Sort) (n : ℕ) (x : Location) → at_number (empties sorts) n ≡ Some x → ⊥
unfolding at_number
at_empty sorts n x e = get_empty sorts n x (flattened_is _ x e)
