-- The channels that a child is given.
use Rattle.std.proofs.Common.{◌≡◌, ℕ, ℤ, zero, suc, ◌+◌, ◌<◌, ◌≤◌, true, List, [], ◌∷◌, ◌++◌, Option, Some, None, inl, inr, refl, sym, ap, ◌∙◌, subst, arith}
use Rattle.std.proofs.lemmas.Bool.{cases_eq, or_left, or_right}
use Rattle.std.specs.Prelude.{slice_get}
use Rattle.shim_base.specs.declared.types.Ty.{Ty}
use Rattle.shim_base.specs.Paths.{Path, Channel, NamedChannel, same_channel}
use Rattle.shim_syntax.specs.declared.tree.Sort.{Sort}
use Rattle.shim_process.specs.Locations.{Location, Locations, at_number, lend_at, with_moved}
use Rattle.shim_process.specs.Arguments.{Argument, ByReference, ByCopy, ByValue, copied_location, new_location, new_channels, branch_locations, channels_of, empties}
use Rattle.shim_process.specs.Sharers.{is_among}
use Rattle.shim_process.proofs.PlaceLocations.{at_empty}
use Rattle.shim_process.proofs.ForkNames.{same_channel_of}
use Rattle.shim_base.proofs.Facts.{some_same}

-- empty locations after change nothing

pub before_empties : (xs : Locations) (ss : List Sort) (n : ℕ) (x : Location) → at_number (xs ++ empties ss) n ≡ Some x → at_number xs n ≡ Some x
unfolding at_number
before_empties [] ss n x e = absurd (at_empty ss n x e)
before_empties (z ∷ xs) ss zero x e = e
before_empties (z ∷ xs) ss (suc n) x e = before_empties xs ss n x e

pub with_empties : (xs : Locations) (ss : List Sort) (n : ℕ) (x : Location) → at_number xs n ≡ Some x → at_number (xs ++ empties ss) n ≡ Some x
unfolding at_number
with_empties [] ss n x e = absurd cc
with_empties (z ∷ xs) ss zero x e = e
with_empties (z ∷ xs) ss (suc n) x e = with_empties xs ss n x e

-- the channels of locations are among those that are given, and no others

pub among_given : (xs : Locations) (n : ℕ) (x : Location) → at_number xs n ≡ Some x → is_among x.channel.channel (channels_of xs) ≡ true
unfolding at_number
among_given [] n x e = absurd cc
among_given (None ∷ xs) zero x e = absurd cc
among_given (None ∷ xs) (suc n) x e = among_given xs n x e
among_given (Some z ∷ xs) zero x e = or_left _ _ (same_channel_of z.channel.channel x.channel.channel (ap (λ (l : Location). l.channel.channel) (some_same z x e)))
among_given (Some z ∷ xs) (suc n) x e = or_right (same_channel z.channel.channel x.channel.channel) _ (among_given xs n x e)

-- a location on a channel that is given
pub record Given (xs : Locations) (c : NamedChannel) : Type 0 where
  pub number : ℕ
  pub place : Location
  pub at : at_number xs number ≡ Some place
  pub on : place.channel ≡ c

given_behind : (o : Option Location) (xs : Locations) (c : NamedChannel) → Given xs c → Given (o ∷ xs) c
unfolding at_number
given_behind o xs c w = record { number = suc w.number; place = w.place; at = w.at; on = w.on }

given_first : (x : Location) (xs : Locations) (c : NamedChannel) → x.channel ≡ c → Given (Some x ∷ xs) c
unfolding at_number
given_first x xs c e = record { number = zero; place = x; at = refl; on = e }

pub given_where : (xs : Locations) (at : ℕ) (c : NamedChannel) → slice_get (channels_of xs) at ≡ Some c → Given xs c
given_where [] at c e = absurd cc
given_where (None ∷ xs) at c e = given_behind None xs c (given_where xs at c e)
given_where (Some x ∷ xs) zero c e = given_first x xs c (some_same x.channel c e)
given_where (Some x ∷ xs) (suc at) c e = given_behind (Some x) xs c (given_where xs at c e)

-- a location on each new channel

record HasNewChannel (child : Path) (serial : ℕ) (xs : Locations) : Type 0 where
  number : ℕ
  place : Location
  at : at_number xs number ≡ Some place
  home : place.channel.channel.home ≡ child
  its : place.channel.channel.serial ≡ serial

made_behind : (child : Path) (serial : ℕ) (o : Option Location) (xs : Locations) → HasNewChannel child serial xs → HasNewChannel child serial (o ∷ xs)
unfolding at_number
made_behind child serial o xs w = record { number = suc w.number; place = w.place; at = w.at; home = w.home; its = w.its }

made_first : (child : Path) (s serial name : ℕ) (t : Ty) (v : ℤ) (xs : Locations) → s ≡ serial → HasNewChannel child serial (Some (new_location child s name t v) ∷ xs)
unfolding at_number
made_first child s serial name t v xs e = record { number = zero; place = new_location child s name t v; at = refl; home = refl; its = e }

made_there : (child : Path) (xs : Locations) (s : ℕ) (given : List Argument) (serial : ℕ) → s ≤ serial → serial < s + new_channels given → HasNewChannel child serial (branch_locations child xs s given)
made_there child xs s [] serial le lt = absurd (omega (arith, le, lt))
made_there child xs s (ByReference k ∷ rest) serial le lt = made_behind child serial (with_moved (at_number xs k)) _ (made_there child (lend_at xs k) s rest serial le lt)
made_there child xs s (ByCopy t k ∷ rest) serial le lt = made_behind child serial (copied_location t (at_number xs k)) _ (made_there child xs s rest serial le lt)
made_there child xs s (ByValue t name v ∷ rest) serial le lt =
    elim (cases_eq s serial) [
      | inl same ↦ made_first child s serial name t v _ same
      | inr ne ↦ made_behind child serial (Some (new_location child s name t v)) _ (made_there child xs (s + 1) rest serial (omega (arith, le, ne)) (omega (arith, lt)))
    ]

pub among_made : (child : Path) (xs : Locations) (given : List Argument) (c : Channel) → c.home ≡ child → c.serial < new_channels given → is_among c (channels_of (branch_locations child xs 0 given)) ≡ true
among_made child xs given c home lt =
    let w : HasNewChannel child c.serial (branch_locations child xs 0 given) = made_there child xs 0 given c.serial (omega arith) (omega (arith, lt)) in
    let homes : w.place.channel.channel.home ≡ c.home = w.home ∙ sym home in
    let serials : w.place.channel.channel.serial ≡ c.serial = w.its in
    let same : w.place.channel.channel ≡ c = λ i. record { home = homes i; serial = serials i } in
    subst (λ (d : Channel). is_among d (channels_of (branch_locations child xs 0 given)) ≡ true) same (among_given (branch_locations child xs 0 given) w.number w.place w.at)
