-- A process whose children are done is whole again.
use Rattle.std.proofs.Common.{◌≡◌, ◌∙◌, ℕ, ◌+◌, inl, inr, Bool, List, [], ◌∷◌, Option, Some, None, refl, sym, ap, subst}
use Rattle.std.proofs.lemmas.Bool.{cases_eq}
use Rattle.std.specs.Prelude.{slice_set}
use Rattle.shim_base.specs.Paths.{Channel}
use Rattle.shim_local.specs.Laws.{AllOf}
use Rattle.shim_units.specs.declared.unit.UBranch.{UBranch}
use Rattle.shim_units.specs.declared.unit.Arg.{Arg}
use Rattle.shim_units.specs.declared.unit.Arg.TheVariants.{Ref, Pass, Fresh}
use Rattle.shim_process.specs.Locations.{Location, Locations, Ownership, Own, Lent, Copy, at_number, restored, with_back}
use Rattle.shim_process.specs.Todo.{On}
use Rattle.shim_process.specs.LocalState.{LocalState, number_of}
use Rattle.shim_process.specs.Ends.{gone}
use Rattle.shim_process.specs.Forks.{item_branches, taken_back, all_back, joined, join}
use Rattle.shim_process.specs.Sound.{IsOwned}
use Rattle.shim_process.specs.Born.{Born}
use Rattle.shim_process.proofs.JoinLocations.{Kept, same_ownership, came_back, OneCarries, all_kept}
use Rattle.shim_laws_sources.proofs.Ownerships.{own_not_lent}
use Rattle.shim_laws_sources.specs.Anchored.{OwnedOn, NoneLent, IsAnchoredWhole, Stays}
use Rattle.shim_laws_sources.specs.Homes.{GivesBack, OneGivesBack, IsWaitingFor}
use Rattle.shim_laws_sources.proofs.AtPlaces.{still_at, put_at, Onward, onward_same, onward_both, onward_put, onward_owned, IsGentle}
use Rattle.shim_laws_sources.proofs.WholeEnds.{Moves, moves_on, gone_whole}
use Rattle.shim_laws_sources.proofs.WholeStores.{onward_anchored, onward_stays}
use Rattle.shim_base.proofs.Facts.{some_same, choose}

-- what comes back to a location leaves it on its channel, and owned where it was

owned_back : (b m : Ownership) → IsOwned m → IsOwned (restored b m)
owned_back Own Own h = tt
owned_back Own Lent h = tt
owned_back Own Copy h = h
owned_back Lent m h = h
owned_back Copy m h = h

copy_back : (b m : Ownership) → restored b m ≡ Copy → m ≡ Copy
copy_back Own Own e = absurd cc
copy_back Own Lent e = absurd cc
copy_back Own Copy e = refl
copy_back Lent m e = e
copy_back Copy m e = e

back_gentle : (o p : Option Location) → IsGentle p (with_back o p)
back_gentle None None = tt
back_gentle None (Some l) = record { channel = refl; owned = λ h. h; copy = λ h. h }
back_gentle (Some back) None = tt
back_gentle (Some back) (Some l) = record { channel = refl; owned = owned_back back.ownership l.ownership; copy = copy_back back.ownership l.ownership }

-- what comes back to the location at number i
abbrev back_at : Locations → ℕ → Option Location → Locations
back_at xs i o = slice_set xs i (with_back o (at_number xs i))

back_onward : (xs : Locations) (i : ℕ) (o : Option Location) → Onward xs (back_at xs i o)
back_onward xs i o = onward_put xs i (with_back o (at_number xs i)) (back_gentle o (at_number xs i))

taken_onward : (slots : List ℕ) (j : ℕ) (args : List Arg) (back xs : Locations) → Onward xs (taken_back slots j args back xs)
taken_onward slots j [] back xs = onward_same xs
taken_onward slots j (Ref v ∷ rest) back xs =
    let ys : Locations = back_at xs (number_of slots v) (at_number back j) in
    onward_both xs ys (taken_back slots (j + 1) rest back ys) (back_onward xs (number_of slots v) (at_number back j)) (taken_onward slots (j + 1) rest back ys)
taken_onward slots j (Pass v ∷ rest) back xs = taken_onward slots (j + 1) rest back xs
taken_onward slots j (Fresh e ∷ rest) back xs = taken_onward slots (j + 1) rest back xs

pub all_onward : (slots : List ℕ) (bs : List UBranch) (ks : List LocalState) (xs : Locations) → Onward xs (all_back slots bs ks xs)
all_onward slots [] ks xs = onward_same xs
all_onward slots (b ∷ bs) [] xs = onward_same xs
all_onward slots (b ∷ bs) (k ∷ ks) xs =
    let ys : Locations = taken_back slots 0 b.call.args k.locations xs in
    onward_both xs ys (all_back slots bs ks ys) (taken_onward slots 0 b.call.args k.locations xs) (all_onward slots bs ks ys)

-- a location that is the channel's own variable stays that

record IsOwnAt (xs : Locations) (n : ℕ) : Type 0 where
  place : Location
  at : at_number xs n ≡ Some place
  own : place.ownership ≡ Own

own_back : (b m : Ownership) → m ≡ Own → restored b m ≡ Own
own_back Own Own e = refl
own_back Own Lent e = refl
own_back Own Copy e = absurd cc
own_back Lent m e = e
own_back Copy m e = e

own_now : (xs : Locations) (n : ℕ) (o was : Option Location) (x : Location) → at_number xs n ≡ was → was ≡ Some x → x.ownership ≡ Own → IsOwnAt (slice_set xs n (with_back o was)) n
own_now xs n o None x at e own = absurd cc
own_now xs n None (Some w) x at e own = record { place = w; at = put_at xs n w w at; own = ap (λ (r : Location). r.ownership) (some_same w x e) ∙ own }
own_now xs n (Some back) (Some w) x at e own =
    let is_own : w.ownership ≡ Own = ap (λ (r : Location). r.ownership) (some_same w x e) ∙ own in
    let new : Location = record w { value = back.value; ownership = restored back.ownership w.ownership } in
    record { place = new; at = put_at xs n w new at; own = own_back back.ownership w.ownership is_own }

own_one : (xs : Locations) (i n : ℕ) (o : Option Location) → IsOwnAt xs n → IsOwnAt (back_at xs i o) n
own_one xs i n o w = elim (cases_eq i n) [
  | inl same ↦ subst (λ (m : ℕ). IsOwnAt (back_at xs m o) n) (sym same) (own_now xs n o (at_number xs n) w.place refl w.at w.own)
  | inr ne ↦ record { place = w.place; at = still_at (with_back o (at_number xs i)) xs i n w.place ne w.at; own = w.own }
]

own_taken : (slots : List ℕ) (j : ℕ) (args : List Arg) (back xs : Locations) (n : ℕ) → IsOwnAt xs n → IsOwnAt (taken_back slots j args back xs) n
own_taken slots j [] back xs n w = w
own_taken slots j (Ref v ∷ rest) back xs n w = own_taken slots (j + 1) rest back (back_at xs (number_of slots v) (at_number back j)) n (own_one xs (number_of slots v) n (at_number back j) w)
own_taken slots j (Pass v ∷ rest) back xs n w = own_taken slots (j + 1) rest back xs n w
own_taken slots j (Fresh e ∷ rest) back xs n w = own_taken slots (j + 1) rest back xs n w

own_all : (slots : List ℕ) (bs : List UBranch) (ks : List LocalState) (xs : Locations) (n : ℕ) → IsOwnAt xs n → IsOwnAt (all_back slots bs ks xs) n
own_all slots [] ks xs n w = w
own_all slots (b ∷ bs) [] xs n w = w
own_all slots (b ∷ bs) (k ∷ ks) xs n w = own_all slots bs ks (taken_back slots 0 b.call.args k.locations xs) n (own_taken slots 0 b.call.args k.locations xs n w)

-- and one that was lent is that again

not_lent_own : (m : Ownership) → IsOwned m → (m ≡ Lent → ⊥) → m ≡ Own
not_lent_own Own h n = refl
not_lent_own Lent h n = absurd (n refl)
not_lent_own Copy h n = absurd h

regains : (b m : Ownership) → b ≡ Own → IsOwned m → restored b m ≡ Own
regains Own Own e h = refl
regains Own Lent e h = refl
regains Own Copy e h = absurd h
regains Lent m e h = absurd cc
regains Copy m e h = absurd cc

own_again : (xs : Locations) (n : ℕ) (x back : Location) (o was : Option Location) → at_number xs n ≡ was → was ≡ Some x → o ≡ Some back → IsOwned x.ownership → back.ownership ≡ Own
    → IsOwnAt (slice_set xs n (with_back o was)) n
own_again xs n x back o None at e f owned own = absurd cc
own_again xs n x back None (Some w) at e f owned own = absurd cc
own_again xs n x back (Some b) (Some w) at e f owned own =
    let same : w ≡ x = some_same w x e in
    let also : b ≡ back = some_same b back f in
    let new : Location = record w { value = b.value; ownership = restored b.ownership w.ownership } in
    record { place = new; at = put_at xs n w new at; own = regains b.ownership w.ownership (ap (λ (r : Location). r.ownership) also ∙ own) (subst (λ (r : Location). IsOwned r.ownership) (sym same) owned) }

gives : (slots : List ℕ) (j : ℕ) (args : List Arg) (k : LocalState) (n : ℕ) (c : Channel) (xs : Locations) → NoneLent k.locations → GivesBack slots j args k n c → OwnedOn xs n c → IsOwnAt (taken_back slots j args k.locations xs) n
gives slots j [] k n c xs none g w = absurd g
gives slots j (Ref v ∷ rest) k n c xs none (inl g) w =
    let back : OwnedOn k.locations j c = g.2 in
    own_taken slots (j + 1) rest k.locations (back_at xs (number_of slots v) (at_number k.locations j)) n
    (subst (λ (m : ℕ). IsOwnAt (back_at xs m (at_number k.locations j)) n) (sym g.0)
    (own_again xs n w.place back.place (at_number k.locations j) (at_number xs n) refl w.at back.at w.owned (not_lent_own back.place.ownership back.owned (λ lent. none j back.place back.at lent))))
gives slots j (Ref v ∷ rest) k n c xs none (inr g) w =
    let ys : Locations = back_at xs (number_of slots v) (at_number k.locations j) in
    gives slots (j + 1) rest k n c ys none g (onward_owned xs ys n c (back_onward xs (number_of slots v) (at_number k.locations j)) w)
gives slots j (Pass v ∷ rest) k n c xs none g w = gives slots (j + 1) rest k n c xs none g w
gives slots j (Fresh e ∷ rest) k n c xs none g w = gives slots (j + 1) rest k n c xs none g w

one_gives : (slots : List ℕ) (bs : List UBranch) (ks : List LocalState) (n : ℕ) (c : Channel) (xs : Locations) → AllOf IsAnchoredWhole ks → OneGivesBack slots bs ks n c → OwnedOn xs n c → IsOwnAt (all_back slots bs ks xs) n
one_gives slots [] ks n c xs all g w = absurd g
one_gives slots (b ∷ bs) [] n c xs all g w = absurd g
one_gives slots (b ∷ bs) (k ∷ ks) n c xs all (inl g) w = own_all slots bs ks (taken_back slots 0 b.call.args k.locations xs) n (gives slots 0 b.call.args k n c xs all.0.1 g w)
one_gives slots (b ∷ bs) (k ∷ ks) n c xs all (inr g) w =
    let ys : Locations = taken_back slots 0 b.call.args k.locations xs in
    one_gives slots bs ks n c ys all.1 g (onward_owned xs ys n c (taken_onward slots 0 b.call.args k.locations xs) w)

-- so nothing is lent any more

joined_none : (l : LocalState) (ks : List LocalState) → IsWaitingFor l ks → AllOf IsAnchoredWhole ks → Born l ks → NoneLent (joined l ks).locations
joined_none l ks h all born n y e lent = by_kept (all_kept l born.fork 0 (item_branches l.frame.todo) ks l.locations n y born.places (λ j. refl) e)
  where
    by_kept : Kept (OneCarries ks) l.locations n y → ⊥
    by_kept (came_back x there channel was own away) = own_not_lent y.ownership own lent
    by_kept (same_ownership w) =
        let bs : List UBranch = item_branches l.frame.todo in
        let was : w.location.ownership ≡ Lent = w.ownership ∙ lent in
        let o = one_gives l.frame.slots bs ks n w.location.channel.channel l.locations all (h.lent n w.location w.there was)
        (record { place = w.location; at = w.there; owned = subst IsOwned (sym was) tt; on = refl }) in
        own_not_lent y.ownership (ap (λ (r : Location). r.ownership) (some_same y o.place (sym e ∙ o.at)) ∙ o.own) lent

joined_whole : (l : LocalState) (ks : List LocalState) → IsWaitingFor l ks → AllOf IsAnchoredWhole ks → Born l ks → Moves l (joined l ks)
joined_whole l ks h all born =
    let bs : List UBranch = item_branches l.frame.todo in
    let ys : Locations = all_back l.frame.slots bs ks l.locations in
    let w : Onward l.locations (all_back l.frame.slots bs ks l.locations) = all_onward l.frame.slots bs ks l.locations in
    let s : Stays l (record l { locations = ys }) = onward_stays l ys w in
    ((onward_anchored l ys h.anchored w, joined_none l ks h all born), record { path = refl; given = refl; many = refl; owned = s.owned })

pub join_whole : (l : LocalState) (ks : List LocalState) (goes_on : Bool) → IsWaitingFor l ks → AllOf IsAnchoredWhole ks → Born l ks → Moves l (join l ks goes_on)
unfolding join
join_whole l ks goes_on h all born =
    let w : Moves l (joined l ks) = joined_whole l ks h all born in
    choose (λ (z : LocalState). Moves l z) goes_on (gone On (joined l ks)) (joined l ks) (moves_on l (joined l ks) (gone On (joined l ks)) w.1 (gone_whole On (joined l ks) w.0)) w
