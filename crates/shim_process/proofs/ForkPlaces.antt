-- The locations of a process of which some are lent.
use Rattle.std.proofs.Common.{◌≡◌, ℕ, zero, suc, List, [], ◌∷◌, Option, Some, None, ◌⊎◌, inl, inr, refl, sym, ap, ◌∙◌, subst, arith}
use Rattle.std.specs.Prelude.{slice_set}
use Rattle.shim_base.specs.Paths.{Channel, NamedChannel}
use Rattle.shim_scopes.specs.declared.tree.UParam.{UParam}
use Rattle.shim_units.specs.declared.unit.Arg.{Arg}
use Rattle.shim_units.specs.declared.unit.Arg.TheVariants.{Ref, Pass, Fresh}
use Rattle.shim_process.specs.Locations.{Location, Locations, Ownership, Own, Lent, Copy, at_number, lend_at, kept, with_kept}
use Rattle.shim_process.specs.LocalState.{number_of}
use Rattle.shim_process.specs.Forks.{lent}
use Rattle.shim_process.specs.Sound.{IsOwned}
use Rattle.shim_process.proofs.CarryChannels.{Carried}
use Rattle.shim_base.proofs.Facts.{some_same}

abbrev pub IsOwn : Ownership → Type 0
IsOwn m = m ≡ Own

pub owned : (m : Ownership) → m ≡ Own → IsOwned m
owned m e = subst IsOwned (sym e) tt

-- a location at this number from which that one comes: on the same channel, with an ownership that has P where the other's has
pub record Place (P : Ownership → Type 0) (xs : Locations) (n : ℕ) (y : Location) : Type 0 where
  pub was : Location
  pub at : at_number xs n ≡ Some was
  pub channel : was.channel ≡ y.channel
  pub marked : P y.ownership → P was.ownership

-- each location of the first list comes from that of the second one at its number
abbrev pub ComesFrom : (Ownership → Type 0) → Locations → Locations → Type 0
ComesFrom P ys xs = (n : ℕ) (y : Location) → at_number ys n ≡ Some y → Place P xs n y

pub same_place : (P : Ownership → Type 0) (xs : Locations) (n : ℕ) (y : Location) → at_number xs n ≡ Some y → Place P xs n y
same_place P xs n y e = record { was = y; at = e; channel = refl; marked = λ h. h }

pub within_both : (P : Ownership → Type 0) (zs ys xs : Locations) → ComesFrom P zs ys → ComesFrom P ys xs → (n : ℕ) (z : Location) → at_number zs n ≡ Some z → Place P xs n z
within_both P zs ys xs f g n z e =
    let a = f n z e in
    let b = g n a.was a.at in
    record { was = b.was; at = b.at; channel = b.channel ∙ a.channel; marked = λ h. b.marked (a.marked h) }

-- what stands at a number where one is changed
at_changed : (f : Option Location → Option Location) (xs : Locations) (k n : ℕ) (y : Location) → at_number (slice_set xs k (f (at_number xs k))) n ≡ Some y
    → ((k ≡ n) × (f (at_number xs n) ≡ Some y)) ⊎ ((k ≡ n → ⊥) × (at_number xs n ≡ Some y))
unfolding at_number
at_changed f [] k n y e = absurd cc
at_changed f (x ∷ xs) zero zero y e = inl (refl, e)
at_changed f (x ∷ xs) zero (suc n) y e = inr (λ w. absurd (omega (arith, w)), e)
at_changed f (x ∷ xs) (suc k) zero y e = inr (λ w. absurd (omega (arith, w)), e)
at_changed f (x ∷ xs) (suc k) (suc n) y e =
    elim (at_changed f xs k n y e) [
      | inl w ↦ inl (ap suc w.0, w.1)
      | inr w ↦ inr (λ v. w.0 (omega (arith, v)), w.1)
    ]

at_unchanged : (x : Option Location) (xs : Locations) (k n : ℕ) (y : Location) → (k ≡ n → ⊥) → at_number xs n ≡ Some y → at_number (slice_set xs k x) n ≡ Some y
unfolding at_number
at_unchanged x [] k n y ne e = absurd cc
at_unchanged x (z ∷ xs) zero zero y ne e = absurd (ne refl)
at_unchanged x (z ∷ xs) zero (suc n) y ne e = e
at_unchanged x (z ∷ xs) (suc k) zero y ne e = e
at_unchanged x (z ∷ xs) (suc k) (suc n) y ne e = at_unchanged x xs k n y (λ w. ne (ap suc w)) e

-- what is kept of a location that is lent

pub kept_owned : (m : Ownership) → IsOwned (kept m) → IsOwned m
kept_owned Own h = tt
kept_owned Lent h = tt
kept_owned Copy h = h

pub kept_not_own : (m : Ownership) → kept m ≡ Own → ⊥
kept_not_own Own e = cc
kept_not_own Lent e = cc
kept_not_own Copy e = cc

pub kept_own : (m : Ownership) → IsOwn (kept m) → IsOwn m
kept_own m e = absurd (kept_not_own m e)

kept_place : (P : Ownership → Type 0) → ((m : Ownership) → P (kept m) → P m) → (xs : Locations) (n : ℕ) (y : Location) (o : Option Location) → at_number xs n ≡ o → with_kept o ≡ Some y → Place P xs n y
kept_place P keep xs n y None at e = absurd cc
kept_place P keep xs n y (Some x) at e =
    let same : record x { ownership = kept x.ownership } ≡ y = some_same (record x { ownership = kept x.ownership }) y e in
    record {
      was = x;
      at = at;
      channel = ap (λ (z : Location). z.channel) same;
      marked = λ h. keep x.ownership (subst P (ap (λ (z : Location). z.ownership) (sym same)) h);
    }

pub within_lend : (P : Ownership → Type 0) → ((m : Ownership) → P (kept m) → P m) → (xs : Locations) (k n : ℕ) (y : Location) → at_number (lend_at xs k) n ≡ Some y → Place P xs n y
unfolding lend_at
within_lend P keep xs k n y e =
    elim (at_changed with_kept xs k n y e) [
      | inl w ↦ kept_place P keep xs n y (at_number xs n) refl w.1
      | inr w ↦ same_place P xs n y w.1
    ]

kept_is_not_own : (o : Option Location) (y : Location) → with_kept o ≡ Some y → y.ownership ≡ Own → ⊥
kept_is_not_own None y e own = cc
kept_is_not_own (Some x) y e own = kept_not_own x.ownership (ap (λ (z : Location). z.ownership) (some_same (record x { ownership = kept x.ownership }) y e) ∙ own)

-- what is lent isn't the process's own any more
pub lent_not_own : (xs : Locations) (k n : ℕ) (y : Location) → at_number (lend_at xs k) n ≡ Some y → y.ownership ≡ Own → k ≡ n → ⊥
unfolding lend_at
lent_not_own xs k n y e own same =
    elim (at_changed with_kept xs k n y e) [
      | inl w ↦ kept_is_not_own (at_number xs n) y w.1 own
      | inr w ↦ w.0 same
    ]

pub at_not_lent : (xs : Locations) (k n : ℕ) (y : Location) → (k ≡ n → ⊥) → at_number xs n ≡ Some y → at_number (lend_at xs k) n ≡ Some y
unfolding lend_at
at_not_lent xs k n y ne e = at_unchanged (with_kept (at_number xs k)) xs k n y ne e

pub within_lent : (P : Ownership → Type 0) → ((m : Ownership) → P (kept m) → P m) → (slots : List ℕ) (ps : List UParam) (args : List Arg) (xs : Locations) (n : ℕ) (y : Location) → at_number (lent slots ps args xs) n ≡ Some y → Place P xs n y
within_lent P keep slots [] args xs n y e = same_place P xs n y e
within_lent P keep slots (p ∷ ps) [] xs n y e = same_place P xs n y e
within_lent P keep slots (p ∷ ps) (Ref x ∷ rest) xs n y e =
    within_both P (lent slots ps rest (lend_at xs (number_of slots x))) (lend_at xs (number_of slots x)) xs (within_lent P keep slots ps rest (lend_at xs (number_of slots x))) (within_lend P keep xs (number_of slots x)) n y e
within_lent P keep slots (p ∷ ps) (Pass x ∷ rest) xs n y e = within_lent P keep slots ps rest xs n y e
within_lent P keep slots (p ∷ ps) (Fresh v ∷ rest) xs n y e = within_lent P keep slots ps rest xs n y e

-- the own variable of a channel

pub carried_within : (c : Channel) (ys xs : Locations) → ComesFrom IsOwn ys xs → Carried ys c → Carried xs c
carried_within c ys xs f w =
    let p = f w.number w.location w.there in
    record { number = w.number; location = p.was; there = p.at; ownership = p.marked w.ownership; channel = ap (λ (d : NamedChannel). d.channel) p.channel ∙ w.channel }

pub carried_none : (c : Channel) → Carried [] c → ⊥
unfolding at_number
carried_none c w = let e : None ≡ Some w.location = w.there in cc

pub carried_behind : (c : Channel) (o : Option Location) (xs : Locations) → Carried xs c → Carried (o ∷ xs) c
unfolding at_number
carried_behind c o xs w = record { number = suc w.number; location = w.location; there = w.there; ownership = w.ownership; channel = w.channel }

pub carried_head : (c : Channel) (o : Option Location) (xs : Locations) (x : Location) → o ≡ Some x → x.ownership ≡ Own → x.channel.channel ≡ c → Carried (o ∷ xs) c
unfolding at_number
carried_head c o xs x e own on = record { number = zero; location = x; there = e; ownership = own; channel = on }

carried_next : (c : Channel) (o : Option Location) (xs : Locations) (n : ℕ) (x : Location) → at_number (o ∷ xs) n ≡ Some x → x.ownership ≡ Own → x.channel.channel ≡ c
    → ((z : Location) → o ≡ Some z → z.ownership ≡ Own → z.channel.channel ≡ c → ⊥) → Carried xs c
unfolding at_number
carried_next c o xs zero x e own on f = absurd (f x e own on)
carried_next c o xs (suc n) x e own on f = record { number = n; location = x; there = e; ownership = own; channel = on }

-- where the first location isn't the channel's own variable
pub carried_rest : (c : Channel) (o : Option Location) (xs : Locations) → ((z : Location) → o ≡ Some z → z.ownership ≡ Own → z.channel.channel ≡ c → ⊥) → Carried (o ∷ xs) c → Carried xs c
carried_rest c o xs f w = carried_next c o xs w.number w.location w.there w.ownership w.channel f
