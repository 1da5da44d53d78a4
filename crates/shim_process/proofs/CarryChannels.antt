-- Tests of channels, what a process shares, and what it carries.
use Rattle.std.proofs.Common.{◌≡◌, ◌≢◌, ◌∙◌, ℕ, zero, suc, ◌<◌, ◌≤◌, ◌⊎◌, inl, inr, Bool, true, false, not, ◌&&◌, ◌||◌, List, [], ◌∷◌, Some, None, cond, refl, sym, ap, arith}
use Rattle.std.proofs.lemmas.Bool.{ltb-true, lt-ltb}
use Rattle.std.specs.Prelude.{slice_get, nat_lt}
use Rattle.shim_base.specs.Paths.{Channel, NamedChannel, same_path, same_channel}
use Rattle.shim_process.specs.Locations.{Location, Locations, Ownership, Own, is_own, is_on, flattened, at_number, own_of}
use Rattle.shim_process.specs.LocalState.{LocalState}
use Rattle.shim_process.specs.SerialRuns.{is_in_runs}
use Rattle.shim_process.specs.Sharers.{is_among, made_serial, declared, shares, carries, is_present}
use Rattle.shim_process.proofs.PlaceLocations.{flattened_is}
use Rattle.shim_base.proofs.Facts.{some_same, first_holds, second_holds, both_hold, either_holds, or_left, or_right, not_false, false_not, false_unless, choose}
use Rattle.shim_base.proofs.SamePaths.{same_path_refl, same_path_is, same_channel_is, same_channel_refl}

-- a channel among these is at a place
pub among_at : (c : Channel) (ds : List NamedChannel) → is_among c ds ≡ true → (at : ℕ) × (d : NamedChannel) × (slice_get ds at ≡ Some d) × (d.channel ≡ c)
among_at c [] e = absurd cc
among_at c (d ∷ ds) e = elim (either_holds (same_channel d.channel c) (is_among c ds) e) [
  | inl h ↦ (0, d, refl, same_channel_is d.channel c h)
  | inr h ↦ let w = among_at c ds h in (suc w.0, w.1, w.2, w.3)
]

-- and one at a place is among these
pub place_among : (ds : List NamedChannel) (at : ℕ) (d : NamedChannel) (c : Channel) → slice_get ds at ≡ Some d → d.channel ≡ c → is_among c ds ≡ true
place_among [] at d c e f = absurd cc
place_among (x ∷ ds) zero d c e f = or_left (same_channel x.channel c) (is_among c ds) (ap (λ (z : NamedChannel). same_channel z.channel c) (some_same x d e) ∙ ap (λ z. same_channel z c) f ∙ same_channel_refl c)
place_among (x ∷ ds) (suc at) d c e f = or_right (same_channel x.channel c) (is_among c ds) (place_among ds at d c e f)

-- what is shared goes by the path, the given channels, the count of those made and which of these no handler has taken
pub shares_same : (l m : LocalState) (c : Channel) → m.path ≡ l.path → m.given ≡ l.given → m.made ≡ l.made → m.untaken ≡ l.untaken → shares m c ≡ shares l c
unfolding shares
shares_same l m c path given made untaken = λ i. is_among c (given i) || (same_path c.home (path i) && (nat_lt c.serial (made i) && not (is_in_runs c.serial (untaken i))))

-- a serial number of one that was made and that no handler has still to take
taken_parts : (l : LocalState) (n : ℕ) → made_serial l n ≡ true → (n < l.made) × (is_in_runs n l.untaken ≡ false)
taken_parts l n e =
    let run : Bool = is_in_runs n l.untaken in
    (ltb-true n l.made (first_holds (nat_lt n l.made) (not run) e), not_false run (second_holds (nat_lt n l.made) (not run) e))

taken_of : (l : LocalState) (n : ℕ) → n < l.made → is_in_runs n l.untaken ≡ false → made_serial l n ≡ true
taken_of l n below none = both_hold (nat_lt n l.made) (not (is_in_runs n l.untaken)) (lt-ltb n l.made below) (false_not (is_in_runs n l.untaken) none)

-- where no less was made, and no handler has to take more of it, no less is shared
pub shares_more : (l m : LocalState) (c : Channel) → m.path ≡ l.path → m.given ≡ l.given → l.made ≤ m.made
    → ((n : ℕ) → n < l.made → is_in_runs n m.untaken ≡ true → is_in_runs n l.untaken ≡ true) → shares l c ≡ true → shares m c ≡ true
unfolding shares
shares_more l m c path given made untaken e = elim (either_holds (is_among c l.given) (declared l c) e) [
  | inl h ↦ or_left (is_among c m.given) (declared m c) (ap (is_among c) given ∙ h)
  | inr h ↦
      let w = taken_parts l c.serial (second_holds (same_path c.home l.path) (made_serial l c.serial) h) in
      let below = w.0 in
      let none : is_in_runs c.serial m.untaken ≡ false = false_unless (is_in_runs c.serial m.untaken) (λ t. let there = untaken c.serial w.0 t in absurd (cc (there, w.1))) in
      or_right (is_among c m.given) (declared m c)
      (both_hold (same_path c.home m.path) (made_serial m c.serial) (ap (same_path c.home) path ∙ first_holds (same_path c.home l.path) (made_serial l c.serial) h)
      (taken_of m c.serial (omega (arith, below, made)) none))
]

-- and what is shared newly is the process's own
pub shares_new : (l m : LocalState) (c : Channel) → m.path ≡ l.path → m.given ≡ l.given → shares l c ≡ false → shares m c ≡ true → c.home ≡ l.path
unfolding shares
shares_new l m c path given none e = elim (either_holds (is_among c m.given) (declared m c) e) [
  | inl h ↦ absurd (let w = or_left (is_among c l.given) (declared l c) (ap (is_among c) (sym given) ∙ h) in cc)
  | inr h ↦ same_path_is c.home m.path (first_holds (same_path c.home m.path) (made_serial m c.serial) h) ∙ path
]

-- one of its own that it made
pub shares_made : (l : LocalState) (c : Channel) → c.home ≡ l.path → c.serial < l.made → is_in_runs c.serial l.untaken ≡ false → shares l c ≡ true
unfolding shares
shares_made l c home below none = or_right (is_among c l.given) (declared l c)
    (both_hold (same_path c.home l.path) (made_serial l c.serial) (ap (λ p. same_path p l.path) home ∙ same_path_refl l.path) (taken_of l c.serial below none))

-- one that it shares was given, or it made it
pub shares_how : (l : LocalState) (c : Channel) → shares l c ≡ true
    → ((at : ℕ) × (d : NamedChannel) × (slice_get l.given at ≡ Some d) × (d.channel ≡ c)) ⊎ ((c.serial < l.made) × (is_in_runs c.serial l.untaken ≡ false))
unfolding shares
shares_how l c e = elim (either_holds (is_among c l.given) (declared l c) e) [
  | inl h ↦ inl (among_at c l.given h)
  | inr h ↦ inr (taken_parts l c.serial (second_holds (same_path c.home l.path) (made_serial l c.serial) h))
]

-- a channel of another home that it shares was given
pub shares_given : (l : LocalState) (c : Channel) → c.home ≢ l.path → shares l c ≡ true → (at : ℕ) × (d : NamedChannel) × (slice_get l.given at ≡ Some d) × (d.channel ≡ c)
unfolding shares
shares_given l c other e = elim (either_holds (is_among c l.given) (declared l c) e) [
  | inl h ↦ among_at c l.given h
  | inr h ↦ absurd (other (same_path_is c.home l.path (first_holds (same_path c.home l.path) (made_serial l c.serial) h)))
]

-- one that was given it shares
pub given_shares : (l : LocalState) (at : ℕ) (d : NamedChannel) (c : Channel) → slice_get l.given at ≡ Some d → d.channel ≡ c → shares l c ≡ true
unfolding shares
given_shares l at d c e f = or_left (is_among c l.given) (declared l c) (place_among l.given at d c e f)

own_is : (m : Ownership) → is_own m ≡ true → m ≡ Own
own_is Own e = refl
own_is _ e = absurd cc

-- a location is the channel's own variable
pub record Carried (locations : Locations) (c : Channel) : Type 0 where
  pub number : ℕ
  pub location : Location
  pub there : at_number locations number ≡ Some location
  pub ownership : location.ownership ≡ Own
  pub channel : location.channel.channel ≡ c

abbrev IsCarried : Channel → Locations → Type 0
IsCarried c locations = (n : ℕ) × (x : Location) × (slice_get locations n ≡ Some (Some x)) × (x.ownership ≡ Own) × (x.channel.channel ≡ c)

by_test : (c : Channel) (l : Location) (locations : Locations) → (is_present (own_of c locations) ≡ true → IsCarried c locations)
    → (t : Bool) → is_own l.ownership && is_on c l ≡ t → is_present (cond t (Some l) (own_of c locations)) ≡ true → IsCarried c (Some l ∷ locations)
by_test c l locations rest true same e = (zero, l, refl, own_is l.ownership (first_holds (is_own l.ownership) (is_on c l) same), same_channel_is l.channel.channel c (second_holds (is_own l.ownership) (is_on c l) same))
by_test c l locations rest false same e = let w = rest e in (suc w.0, w.1, w.2, w.3, w.4)

get_carried : (c : Channel) (locations : Locations) → is_present (own_of c locations) ≡ true → IsCarried c locations
get_carried c [] e = absurd cc
get_carried c (None ∷ locations) e = let w = get_carried c locations e in (suc w.0, w.1, w.2, w.3, w.4)
get_carried c (Some l ∷ locations) e = by_test c l locations (λ h. get_carried c locations h) (is_own l.ownership && is_on c l) refl e

carried_get : (c : Channel) (locations : Locations) (n : ℕ) (x : Location) → slice_get locations n ≡ Some (Some x) → x.ownership ≡ Own → x.channel.channel ≡ c → is_present (own_of c locations) ≡ true
carried_get c [] n x e ownership channel = absurd (cc)
carried_get c (None ∷ locations) zero x e ownership channel = let w = some_same None (Some x) e in absurd (cc)
carried_get c (None ∷ locations) (suc n) x e ownership channel = carried_get c locations n x e ownership channel
carried_get c (Some l ∷ locations) zero x e ownership channel =
    let same : l ≡ x = some_same l x (some_same (Some l) (Some x) e) in
    let own : is_own l.ownership ≡ true = ap (λ (r : Location). is_own r.ownership) same ∙ ap is_own ownership in
    let on : is_on c l ≡ true = ap (λ (r : Location). same_channel r.channel.channel c) same ∙ ap (λ d. same_channel d c) channel ∙ same_channel_refl c in
    ap (λ t. is_present (cond t (Some l) (own_of c locations))) (both_hold (is_own l.ownership) (is_on c l) own on)
carried_get c (Some l ∷ locations) (suc n) x e ownership channel =
    choose (λ o. is_present o ≡ true) (is_own l.ownership && is_on c l) (Some l) (own_of c locations) refl (carried_get c locations n x e ownership channel)

pub carried_at : (l : LocalState) (c : Channel) → carries l c ≡ true → Carried l.locations c
unfolding carries at_number
carried_at l c e = let w = get_carried c l.locations e in record { number = w.0; location = w.1; there = ap flattened w.2; ownership = w.3; channel = w.4 }

pub carries_at : (l : LocalState) (c : Channel) (n : ℕ) (x : Location) → at_number l.locations n ≡ Some x → x.ownership ≡ Own → x.channel.channel ≡ c → carries l c ≡ true
unfolding carries at_number
carries_at l c n x e ownership channel = carried_get c l.locations n x (flattened_is _ x e) ownership channel
