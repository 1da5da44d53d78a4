-- What is at a number of locations, from before a change.
use Rattle.std.proofs.Common.{◌≡◌, ◌∙◌, ℕ, zero, suc, ◌<◌, inl, inr, [], ◌∷◌, ◌++◌, length, take, Option, Some, None, refl, sym, ap, subst, arith}
use Rattle.std.proofs.lemmas.Bool.{cases_eq}
use Rattle.std.specs.Prelude.{slice_set}
use Rattle.shim_base.specs.Paths.{Channel, NamedChannel}
use Rattle.shim_process.specs.Locations.{Location, Locations, Copy, at_number}
use Rattle.shim_process.specs.Sound.{IsOwned}
use Rattle.shim_process.proofs.PlaceLocations.{at_set}
use Rattle.shim_process.proofs.PlaceChannels.{length_put}
use Rattle.shim_laws_sources.specs.Anchored.{OwnedOn}
use Rattle.shim_base.proofs.Facts.{some_same}

pub at_below : (xs : Locations) (n : ℕ) (x : Location) → at_number xs n ≡ Some x → n < length xs
unfolding at_number
at_below [] n x e = absurd cc
at_below (y ∷ xs) zero x e = omega arith
at_below (y ∷ xs) (suc n) x e = let h = at_below xs n x e in omega (arith, h)

pub take_below : (k : ℕ) (xs : Locations) (n : ℕ) (x : Location) → at_number (take k xs) n ≡ Some x → n < k
unfolding at_number
take_below zero xs n x e = absurd cc
take_below (suc k) [] n x e = absurd cc
take_below (suc k) (y ∷ xs) zero x e = omega arith
take_below (suc k) (y ∷ xs) (suc n) x e = let h = take_below k xs n x e in omega (arith, h)

pub at_taken : (k : ℕ) (xs : Locations) (n : ℕ) (x : Location) → n < k → at_number xs n ≡ Some x → at_number (take k xs) n ≡ Some x
unfolding at_number
at_taken zero xs n x h e = absurd (omega (arith, h))
at_taken (suc k) [] n x h e = e
at_taken (suc k) (y ∷ xs) zero x h e = e
at_taken (suc k) (y ∷ xs) (suc n) x h e = at_taken k xs n x (omega (arith, h)) e

pub at_before : (xs ys : Locations) (n : ℕ) (x : Location) → at_number xs n ≡ Some x → at_number (xs ++ ys) n ≡ Some x
unfolding at_number
at_before [] ys n x e = absurd cc
at_before (y ∷ xs) ys zero x e = e
at_before (y ∷ xs) ys (suc n) x e = at_before xs ys n x e

-- where another one is changed
pub still_at : (o : Option Location) (xs : Locations) (k n : ℕ) (y : Location) → (k ≡ n → ⊥) → at_number xs n ≡ Some y → at_number (slice_set xs k o) n ≡ Some y
unfolding at_number
still_at o [] k n y ne e = absurd cc
still_at o (z ∷ xs) zero zero y ne e = absurd (ne refl)
still_at o (z ∷ xs) zero (suc n) y ne e = e
still_at o (z ∷ xs) (suc k) zero y ne e = e
still_at o (z ∷ xs) (suc k) (suc n) y ne e = still_at o xs k n y (λ w. ne (ap suc w)) e

-- where this one is
pub put_at : (xs : Locations) (k : ℕ) (y x : Location) → at_number xs k ≡ Some y → at_number (slice_set xs k (Some x)) k ≡ Some x
unfolding at_number
put_at [] k y x e = absurd cc
put_at (z ∷ xs) zero y x e = refl
put_at (z ∷ xs) (suc k) y x e = put_at xs k y x e

-- A location afterwards: on the same channel, and the channel's own variable where it was that.
pub record After (ys : Locations) (n : ℕ) (x : Location) : Type 0 where
  pub place : Location
  pub at : at_number ys n ≡ Some place
  pub channel : place.channel ≡ x.channel
  pub owned : IsOwned x.ownership → IsOwned place.ownership

-- and before: a copy was one
pub record Before (xs : Locations) (n : ℕ) (y : Location) : Type 0 where
  pub place : Location
  pub at : at_number xs n ≡ Some place
  pub channel : place.channel ≡ y.channel
  pub copy : y.ownership ≡ Copy → place.ownership ≡ Copy

-- the second locations are the first ones, later: none moved to another channel
pub record Onward (xs ys : Locations) : Type 0 where
  pub long : length ys ≡ length xs
  pub ahead : (n : ℕ) (x : Location) → at_number xs n ≡ Some x → After ys n x
  pub back : (n : ℕ) (y : Location) → at_number ys n ≡ Some y → Before xs n y

pub onward_same : (xs : Locations) → Onward xs xs
onward_same xs = record {
  long = refl;
  ahead = λ n x e. record { place = x; at = e; channel = refl; owned = λ h. h };
  back = λ n y e. record { place = y; at = e; channel = refl; copy = λ h. h };
}

pub onward_both : (xs ys zs : Locations) → Onward xs ys → Onward ys zs → Onward xs zs
onward_both xs ys zs f g = record {
  long = g.long ∙ f.long;
  ahead = λ n x e.
      let a = f.ahead n x e in
      let b = g.ahead n a.place a.at in
      record { place = b.place; at = b.at; channel = b.channel ∙ a.channel; owned = λ h. b.owned (a.owned h) };
  back = λ n z e.
      let b = g.back n z e in
      let a = f.back n b.place b.at in
      record { place = a.place; at = a.at; channel = a.channel ∙ b.channel; copy = λ h. a.copy (b.copy h) };
}

pub onward_owned : (xs ys : Locations) (n : ℕ) (c : Channel) → Onward xs ys → OwnedOn xs n c → OwnedOn ys n c
onward_owned xs ys n c f w =
    let a = f.ahead n w.place w.at in
    record { place = a.place; at = a.at; owned = a.owned w.owned; on = ap (λ (d : NamedChannel). d.channel) a.channel ∙ w.on }

-- one location is changed so
pub record Gentle (x y : Location) : Type 0 where
  pub channel : y.channel ≡ x.channel
  pub owned : IsOwned x.ownership → IsOwned y.ownership
  pub copy : y.ownership ≡ Copy → x.ownership ≡ Copy

-- it is there where one was, and changed so
abbrev pub IsGentle : Option Location → Option Location → Type 0
IsGentle None None = Unit {0}
IsGentle None (Some y) = ⊥
IsGentle (Some x) None = ⊥
IsGentle (Some x) (Some y) = Gentle x y

put_ahead : (xs : Locations) (k : ℕ) (was now : Option Location) (x : Location) → at_number xs k ≡ was → was ≡ Some x → IsGentle was now → After (slice_set xs k now) k x
put_ahead xs k None now x at e h = absurd cc
put_ahead xs k (Some w) None x at e h = absurd h
put_ahead xs k (Some w) (Some y) x at e h =
    let same : w ≡ x = some_same w x e in
    record {
      place = y;
      at = put_at xs k w y at;
      channel = h.channel ∙ ap (λ (r : Location). r.channel) same;
      owned = λ o. h.owned (subst (λ (r : Location). IsOwned r.ownership) (sym same) o);
    }

put_back : (xs : Locations) (k : ℕ) (was now : Option Location) (y : Location) → at_number xs k ≡ was → now ≡ Some y → IsGentle was now → Before xs k y
put_back xs k was None y at e h = absurd cc
put_back xs k None (Some z) y at e h = absurd h
put_back xs k (Some x) (Some z) y at e h =
    let same : z ≡ y = some_same z y e in
    record {
      place = x;
      at = at;
      channel = sym h.channel ∙ ap (λ (r : Location). r.channel) same;
      copy = λ c. h.copy (ap (λ (r : Location). r.ownership) same ∙ c);
    }

pub onward_put : (xs : Locations) (k : ℕ) (now : Option Location) → IsGentle (at_number xs k) now → Onward xs (slice_set xs k now)
onward_put xs k now h = record {
  long = length_put xs k now;
  ahead = λ n x e. elim (cases_eq k n) [
    | inl same ↦ subst (λ (i : ℕ). After (slice_set xs k now) i x) same (put_ahead xs k (at_number xs k) now x refl (ap (at_number xs) same ∙ e) h)
    | inr ne ↦ record { place = x; at = still_at now xs k n x ne e; channel = refl; owned = λ o. o }
  ];
  back = λ n y e. elim (at_set xs k n now y e) [
    | inl w ↦ subst (λ (i : ℕ). Before xs i y) (sym w.0) (put_back xs k (at_number xs k) now y refl w.1 h)
    | inr there ↦ record { place = y; at = there; channel = refl; copy = λ c. c }
  ];
}
