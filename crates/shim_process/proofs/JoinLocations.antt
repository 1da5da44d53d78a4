-- What the locations that come back at a join were before it.
use Rattle.std.proofs.Common.{◌≡◌, ◌∙◌, ℕ, ◌+◌, ◌⊎◌, inl, inr, true, List, [], ◌∷◌, length, Option, Some, None, refl, sym, ap, subst}
use Rattle.std.specs.Prelude.{slice_set}
use Rattle.shim_base.specs.Paths.{Channel, NamedChannel}
use Rattle.shim_local.specs.Laws.{AnyOf}
use Rattle.shim_units.specs.declared.unit.UBranch.{UBranch}
use Rattle.shim_units.specs.declared.unit.Arg.{Arg}
use Rattle.shim_units.specs.declared.unit.Arg.TheVariants.{Ref, Pass, Fresh}
use Rattle.shim_process.specs.Locations.{Location, Locations, Ownership, Own, Lent, Copy, at_number, channel_in, channel_at, restored, with_back}
use Rattle.shim_process.specs.LocalState.{LocalState, number_of}
use Rattle.shim_process.specs.Forks.{taken_back, all_back}
use Rattle.shim_process.specs.Sharers.{carries}
use Rattle.shim_process.specs.Sound.{IsOwned}
use Rattle.shim_process.specs.Born.{OnChannels, InBranches}
use Rattle.shim_process.proofs.PlaceLocations.{Was, was_there, at_set}
use Rattle.shim_process.proofs.PlaceChannels.{length_put, give_channel}
use Rattle.shim_process.proofs.CarryChannels.{carries_at}
use Rattle.shim_process.proofs.ChildChannels.{parent_on}
use Rattle.shim_base.proofs.Facts.{some_same}

-- A location was at this number, on the same channel: with the same ownership, or lent, and then it is the channel's own variable again, which had been somewhere else.
pub data Kept (Elsewhere : Channel → Type 0) (before : Locations) (n : ℕ) (x : Location) : Type 0 where
  same_ownership : Was before n x → Kept Elsewhere before n x
  came_back : (y : Location) → at_number before n ≡ Some y → y.channel ≡ x.channel → y.ownership ≡ Lent → x.ownership ≡ Own → Elsewhere x.channel.channel → Kept Elsewhere before n x

-- the child carries the channel
abbrev pub Carries : LocalState → Channel → Type 0
Carries k c = carries k c ≡ true

-- one of the children does
abbrev pub OneCarries : List LocalState → Channel → Type 0
OneCarries ks c = AnyOf (λ k. carries k c ≡ true) ks

own_not_lent : (x : Location) → x.ownership ≡ Own → x.ownership ≡ Lent → ⊥
own_not_lent x a b = absurd (cc)

same_chained : (P : Channel → Type 0) (before : Locations) (n : ℕ) (y x : Location) → y.channel ≡ x.channel → y.ownership ≡ x.ownership → Kept P before n y → Kept P before n x
same_chained P before n y x channel ownership (same_ownership v) = same_ownership (record { location = v.location; there = v.there; channel = v.channel ∙ channel; ownership = v.ownership ∙ ownership })
same_chained P before n y x channel ownership (came_back z there other lent own away) =
    came_back z there (other ∙ channel) lent (sym ownership ∙ own) (subst (λ d. P d.channel) channel away)

back_chained : (P : Channel → Type 0) (before : Locations) (n : ℕ) (y x : Location) → y.channel ≡ x.channel → y.ownership ≡ Lent → x.ownership ≡ Own → P x.channel.channel → Kept P before n y → Kept P before n x
back_chained P before n y x channel lent own away (same_ownership v) = came_back v.location v.there (v.channel ∙ channel) (v.ownership ∙ lent) own away
back_chained P before n y x channel lent own away (came_back z there other gone is_own back) = absurd (own_not_lent y is_own lent)

-- what came back twice came back
chained : (P : Channel → Type 0) (before between : Locations) (n : ℕ) (x : Location) → ((y : Location) → at_number between n ≡ Some y → Kept P before n y) → Kept P between n x → Kept P before n x
chained P before between n x h (same_ownership w) = same_chained P before n w.location x w.channel w.ownership (h w.location w.there)
chained P before between n x h (came_back y there channel lent own away) = back_chained P before n y x channel lent own away (h y there)

-- from one of more places
widened : (P Q : Channel → Type 0) (before : Locations) (n : ℕ) (x : Location) → ((c : Channel) → P c → Q c) → Kept P before n x → Kept Q before n x
widened P Q before n x h (same_ownership w) = same_ownership w
widened P Q before n x h (came_back y there channel lent own away) = came_back y there channel lent own (h x.channel.channel away)

ownership_back : (m k : Ownership) → (restored m k ≡ k) ⊎ ((m ≡ Own) × (k ≡ Lent) × (restored m k ≡ Own))
ownership_back Own Own = inl refl
ownership_back Own Lent = inr (refl, refl, refl)
ownership_back Own Copy = inl refl
ownership_back Lent k = inl refl
ownership_back Copy k = inl refl

with_channel : (k : LocalState) (m : ℕ) (before : Locations) (n : ℕ) (back l x : Location) → at_number k.locations m ≡ Some back → at_number before n ≡ Some l → back.channel ≡ l.channel
    → Some (record l { value = back.value; ownership = restored back.ownership l.ownership }) ≡ Some x → Kept (Carries k) before n x
with_channel k m before n back l x a b on e =
    let same = some_same (record l { value = back.value; ownership = restored back.ownership l.ownership }) x e in
    let channel : l.channel ≡ x.channel = ap (λ (r : Location). r.channel) same in
    elim (ownership_back back.ownership l.ownership) [
      | inl h ↦ same_ownership (record { location = l; there = b; channel = channel; ownership = sym h ∙ ap (λ (r : Location). r.ownership) same })
      | inr h ↦
          came_back l b channel h.1 (sym (ap (λ (r : Location). r.ownership) same) ∙ h.2)
          (carries_at k x.channel.channel m back a h.0 (ap (λ (c : NamedChannel). c.channel) (on ∙ channel)))
    ]

by_locations : (k : LocalState) (m : ℕ) (before : Locations) (n : ℕ) (o p : Option Location) (x : Location) → at_number k.locations m ≡ o → at_number before n ≡ p → channel_in o ≡ channel_in p → with_back o p ≡ Some x
    → Kept (Carries k) before n x
by_locations k m before n None p x a b on e = same_ownership (was_there before n x (b ∙ e))
by_locations k m before n (Some back) None x a b on e = same_ownership (was_there before n x (b ∙ e))
by_locations k m before n (Some back) (Some l) x a b on e = with_channel k m before n back l x a b (some_same back.channel l.channel on) e

-- one location's value comes back
one_kept : (k : LocalState) (m i : ℕ) (before : Locations) (n : ℕ) (x : Location) → channel_at k.locations m ≡ channel_at before i
    → at_number (slice_set before i (with_back (at_number k.locations m) (at_number before i))) n ≡ Some x → Kept (Carries k) before n x
one_kept k m i before n x on e = elim (at_set before i n (with_back (at_number k.locations m) (at_number before i)) x e) [
  | inl h ↦ subst (λ j. Kept (Carries k) before j x) (sym h.0) (by_locations k m before i (at_number k.locations m) (at_number before i) x refl refl on h.1)
  | inr h ↦ same_ownership (was_there before n x h)
]

-- all values of one child come back, each on its channel

pub taken_channel : (slots : List ℕ) (m : ℕ) (args : List Arg) (back xs : Locations) (n : ℕ) → channel_at (taken_back slots m args back xs) n ≡ channel_at xs n
taken_channel slots m [] back xs n = refl
taken_channel slots m (Ref y ∷ rest) back xs n =
    taken_channel slots (m + 1) rest back (slice_set xs (number_of slots y) (with_back (at_number back m) (at_number xs (number_of slots y)))) n ∙ give_channel xs (number_of slots y) n (at_number back m)
taken_channel slots m (Pass y ∷ rest) back xs n = taken_channel slots (m + 1) rest back xs n
taken_channel slots m (Fresh y ∷ rest) back xs n = taken_channel slots (m + 1) rest back xs n

taken_length : (slots : List ℕ) (m : ℕ) (args : List Arg) (back xs : Locations) → length (taken_back slots m args back xs) ≡ length xs
taken_length slots m [] back xs = refl
taken_length slots m (Ref y ∷ rest) back xs =
    let now : Option Location = with_back (at_number back m) (at_number xs (number_of slots y)) in
    taken_length slots (m + 1) rest back (slice_set xs (number_of slots y) now) ∙ length_put xs (number_of slots y) now
taken_length slots m (Pass y ∷ rest) back xs = taken_length slots (m + 1) rest back xs
taken_length slots m (Fresh y ∷ rest) back xs = taken_length slots (m + 1) rest back xs

taken_kept : (slots : List ℕ) (m : ℕ) (args : List Arg) (k : LocalState) (before : Locations) (n : ℕ) (x : Location) → OnChannels slots m args k.locations before
    → at_number (taken_back slots m args k.locations before) n ≡ Some x → Kept (Carries k) before n x
taken_kept slots m [] k before n x on e = same_ownership (was_there before n x e)
taken_kept slots m (Ref y ∷ rest) k before n x on e =
    let between : Locations = slice_set before (number_of slots y) (with_back (at_number k.locations m) (at_number before (number_of slots y))) in
    chained (Carries k) before between n x (λ z f. one_kept k m (number_of slots y) before n z on.0 f)
    (taken_kept slots (m + 1) rest k between n x
    (parent_on slots (m + 1) rest k.locations before between (λ j. sym (give_channel before (number_of slots y) j (at_number k.locations m))) on.1) e)
taken_kept slots m (Pass y ∷ rest) k before n x on e = taken_kept slots (m + 1) rest k before n x on.1 e
taken_kept slots m (Fresh y ∷ rest) k before n x on e = taken_kept slots (m + 1) rest k before n x on e

-- the values of all children come back

pub all_channel : (slots : List ℕ) (branches : List UBranch) (ks : List LocalState) (xs : Locations) (n : ℕ) → channel_at (all_back slots branches ks xs) n ≡ channel_at xs n
all_channel slots [] ks xs n = refl
all_channel slots (b ∷ branches) [] xs n = refl
all_channel slots (b ∷ branches) (k ∷ ks) xs n = all_channel slots branches ks (taken_back slots 0 b.call.args k.locations xs) n ∙ taken_channel slots 0 b.call.args k.locations xs n

pub all_length : (slots : List ℕ) (branches : List UBranch) (ks : List LocalState) (xs : Locations) → length (all_back slots branches ks xs) ≡ length xs
all_length slots [] ks xs = refl
all_length slots (b ∷ branches) [] xs = refl
all_length slots (b ∷ branches) (k ∷ ks) xs = all_length slots branches ks (taken_back slots 0 b.call.args k.locations xs) ∙ taken_length slots 0 b.call.args k.locations xs

pub all_kept : (l : LocalState) (f i : ℕ) (branches : List UBranch) (ks : List LocalState) (before : Locations) (n : ℕ) (x : Location) → InBranches l f i branches ks → ((j : ℕ) → channel_at l.locations j ≡ channel_at before j)
    → at_number (all_back l.frame.slots branches ks before) n ≡ Some x → Kept (OneCarries ks) before n x
all_kept l f i [] ks before n x born same e = same_ownership (was_there before n x e)
all_kept l f i (b ∷ branches) [] before n x born same e = same_ownership (was_there before n x e)
all_kept l f i (b ∷ branches) (k ∷ ks) before n x born same e =
    let slots : List ℕ = l.frame.slots in
    let between : Locations = taken_back slots 0 b.call.args k.locations before in
    let on : OnChannels slots 0 b.call.args k.locations before = parent_on slots 0 b.call.args k.locations l.locations before same born.0.channels in
    chained (OneCarries (k ∷ ks)) before between n x
    (λ z f. widened (Carries k) (OneCarries (k ∷ ks)) before n z (λ c h. inl h) (taken_kept slots 0 b.call.args k before n z on f))
    (widened (OneCarries ks) (OneCarries (k ∷ ks)) between n x (λ c h. inr h)
    (all_kept l f (i + 1) branches ks between n x born.1 (λ j. same j ∙ sym (taken_channel slots 0 b.call.args k.locations before j)) e))

-- the channel's own variable, here or with a child, was that before
pub kept_owned : (P : Channel → Type 0) (before : Locations) (n : ℕ) (x : Location) → Kept P before n x → IsOwned x.ownership
    → (y : Location) × (at_number before n ≡ Some y) × IsOwned y.ownership × (y.channel ≡ x.channel)
kept_owned P before n x (same_ownership w) owned = (w.location, w.there, subst IsOwned (sym w.ownership) owned, w.channel)
kept_owned P before n x (came_back y there channel lent own away) owned = (y, there, subst IsOwned (sym lent) tt, channel)

-- the channel was the location's
pub kept_channel : (P : Channel → Type 0) (before : Locations) (n : ℕ) (x : Location) → Kept P before n x → (y : Location) × (at_number before n ≡ Some y) × (y.channel ≡ x.channel)
kept_channel P before n x (same_ownership w) = (w.location, w.there, w.channel)
kept_channel P before n x (came_back y there channel lent own away) = (y, there, channel)
