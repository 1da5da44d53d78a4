-- What a call's arguments put after the locations that were there.
use Rattle.std.proofs.Common.{◌≡◌, ◌∙◌, ℕ, ℤ, zero, suc, ◌+◌, ◌<◌, ◌≤◌, inl, inr, false, List, [], ◌∷◌, Option, Some, None, nat_eq, cond, refl, sym, ap, arith, eq-eqb}
use Rattle.std.proofs.lemmas.Bool.Decides.{eqb_tells}
use Rattle.std.specs.Prelude.{slice_get}
use Rattle.shim_base.specs.declared.types.Ty.{Ty}
use Rattle.shim_base.specs.Paths.{Path}
use Rattle.shim_process.specs.Locations.{Location, Locations, Own, Copy, at_number}
use Rattle.shim_process.specs.Arguments.{Argument, ByReference, ByCopy, ByValue, copied_location, new_location, new_channels, call_locations}
use Rattle.shim_process.proofs.PlaceLocations.{flattened_is}
use Rattle.shim_base.proofs.Facts.{some_same}

-- the number that the location on the new channel of this serial number gets
abbrev pub place_of : List Argument → ℕ → ℕ → ℕ → ℕ
place_of [] serial first s = 0
place_of (ByReference n ∷ rest) serial first s = place_of rest serial first s
place_of (ByCopy t n ∷ rest) serial first s = place_of rest serial (first + 1) s
place_of (ByValue t name v ∷ rest) serial first s = cond (nat_eq s serial) first (place_of rest (serial + 1) (first + 1) s)

-- what it is that an argument put there
pub data Passed (home : Path) (locations : Locations) (given : List Argument) (serial first n : ℕ) (x : Location) : Type 0 where
  by_copy : (m : ℕ) (y : Location) → at_number locations m ≡ Some y → y.channel ≡ x.channel → x.ownership ≡ Copy → Passed home locations given serial first n x
  by_value : x.ownership ≡ Own → x.channel.channel.home ≡ home → serial ≤ x.channel.channel.serial → x.channel.channel.serial < serial + new_channels given
      → first + n ≡ place_of given serial first x.channel.channel.serial → Passed home locations given serial first n x

copy_is : (t : Ty) (o : Option Location) (x : Location) → copied_location t o ≡ Some x → (y : Location) × (o ≡ Some y) × (y.channel ≡ x.channel) × (x.ownership ≡ Copy)
copy_is t None x e = absurd (cc)
copy_is t (Some l) x e = let same = some_same _ x e in (l, refl, ap (λ (r : Location). r.channel) same, sym (ap (λ (r : Location). r.ownership) same))

new_passed : (home : Path) (locations : Locations) (serial first : ℕ) (t : Ty) (name : ℕ) (v : ℤ) (rest : List Argument) (x : Location) → new_location home serial name t v ≡ x
    → Passed home locations (ByValue t name v ∷ rest) serial first zero x
new_passed home locations serial first t name v rest x e =
    let number : serial ≡ x.channel.channel.serial = ap (λ (r : Location). r.channel.channel.serial) e in
    let place : first + zero ≡ first = omega arith in
    by_value (sym (ap (λ (r : Location). r.ownership) e)) (sym (ap (λ (r : Location). r.channel.channel.home) e)) (omega (arith, number)) (omega (arith, number))
    (place ∙ sym (ap (λ b. cond b first (place_of rest (serial + 1) (first + 1) x.channel.channel.serial)) (eq-eqb x.channel.channel.serial serial (sym number))))

past_reference : (home : Path) (locations : Locations) (serial first m n : ℕ) (rest : List Argument) (x : Location) → Passed home locations rest serial first n x
    → Passed home locations (ByReference m ∷ rest) serial first n x
past_reference home locations serial first m n rest x (by_copy k y a b c) = by_copy k y a b c
past_reference home locations serial first m n rest x (by_value a b c d e) = by_value a b c d e

past_copy : (home : Path) (locations : Locations) (serial first : ℕ) (t : Ty) (m n : ℕ) (rest : List Argument) (x : Location) → Passed home locations rest serial (first + 1) n x
    → Passed home locations (ByCopy t m ∷ rest) serial first (suc n) x
past_copy home locations serial first t m n rest x (by_copy k y a b c) = by_copy k y a b c
past_copy home locations serial first t m n rest x (by_value a b c d e) =
    let place : first + suc n ≡ (first + 1) + n = omega arith in
    by_value a b c d (place ∙ e)

apart : (a b : ℕ) → b < a → nat_eq a b ≡ false
apart a b lt = elim (eqb_tells a b) [ inl h ↦ absurd (let w = h.1 in omega (arith, w)) | inr h ↦ h.0 ]

past_value : (home : Path) (locations : Locations) (serial first : ℕ) (t : Ty) (name : ℕ) (v : ℤ) (n : ℕ) (rest : List Argument) (x : Location) → Passed home locations rest (serial + 1) (first + 1) n x
    → Passed home locations (ByValue t name v ∷ rest) serial first (suc n) x
past_value home locations serial first t name v n rest x (by_copy k y a b c) = by_copy k y a b c
past_value home locations serial first t name v n rest x (by_value a b c d e) =
    let place : first + suc n ≡ (first + 1) + n = omega arith in
    by_value a b (omega (arith, c)) (omega (arith, d))
    (place ∙ e ∙ sym (ap (λ z. cond z first (place_of rest (serial + 1) (first + 1) x.channel.channel.serial)) (apart x.channel.channel.serial serial (omega (arith, c)))))

get_passed : (home : Path) (locations : Locations) (serial first : ℕ) (given : List Argument) (n : ℕ) (x : Location) → slice_get (call_locations home locations serial given) n ≡ Some (Some x)
    → Passed home locations given serial first n x
get_passed home locations serial first [] n x e = absurd (cc)
get_passed home locations serial first (ByReference m ∷ rest) n x e = past_reference home locations serial first m n rest x (get_passed home locations serial first rest n x e)
get_passed home locations serial first (ByCopy t m ∷ rest) zero x e = let w = copy_is t (at_number locations m) x (some_same _ (Some x) e) in by_copy m w.0 w.1 w.2 w.3
get_passed home locations serial first (ByCopy t m ∷ rest) (suc n) x e = past_copy home locations serial first t m n rest x (get_passed home locations serial (first + 1) rest n x e)
get_passed home locations serial first (ByValue t name v ∷ rest) zero x e = new_passed home locations serial first t name v rest x (some_same _ x (some_same _ (Some x) e))
get_passed home locations serial first (ByValue t name v ∷ rest) (suc n) x e = past_value home locations serial first t name v n rest x (get_passed home locations (serial + 1) (first + 1) rest n x e)

-- each is a copy of one that was there, or a new channel's own variable
pub at_passed : (home : Path) (locations : Locations) (serial first : ℕ) (given : List Argument) (n : ℕ) (x : Location) → at_number (call_locations home locations serial given) n ≡ Some x
    → Passed home locations given serial first n x
unfolding at_number
at_passed home locations serial first given n x e = get_passed home locations serial first given n x (flattened_is _ x e)
