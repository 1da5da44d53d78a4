-- The numbers of the branches that a refusal reports fit.
use Rattle.std.proofs.Common.{ℕ, ◌^◌, ◌≡◌, ◌≤◌, ◌<◌, ◌⊎◌, inl, inr, List, [], ◌∷◌, Option, Some, None, length, map, refl, subst, arith}
use Rattle.std.specs.Option.{option_or}
use Rattle.std.proofs.lemmas.List.{length-map}
use Rattle.std.proofs.lemmas.Option.{slice_get_within}
use Rattle.shim_syntax.specs.declared.tree.Sort.{Sort}
use Rattle.shim_scopes.specs.declared.tree.RFunction.{RFunction}
use Rattle.shim_sharing.specs.declared.fork.Clash.{Clash}
use Rattle.shim_sharing.specs.declared.found.Offence.{Offence}
use Rattle.shim_sharing.specs.declared.found.Offence.TheVariants.{TwoWriters, Alias}
use Rattle.shim_units.specs.PartFold.{places_in}
use Rattle.shim_units.specs.Parts.{SharingPlace}
use Rattle.shim_units.specs.Parts.SharingPlace.{Fork, Called}
use Rattle.shim_sharing.specs.Numbers.{HasBranchNumbers}
use Rattle.shim_sharing.specs.Room.{FunctionHasRoom}
use Rattle.shim_sharing.specs.Sharing.{clash_from, clash_offence, alias, given_again, offence_at, first_offence}
use Rattle.shim_units.specs.Sizes.{extent}
use Rattle.shim_units.specs.Captures.{Captures, captures}
use Rattle.shim_sharing.proofs.ForkSizes.{ForksWithin}
use Rattle.shim_sharing.proofs.LeastClash.{clash_is_least}
use Rattle.shim_sharing.proofs.LiftedSizes.{body_within}

clash_numbers : (n line k : ℕ) (ts : List Captures) (o : Option Clash) (found : Offence) → clash_from n 0 ts ≡ o → length ts ≤ k → k < 2 ^ 32 → clash_offence line o ≡ Some found → HasBranchNumbers found
clash_numbers n line k ts None found is few fits e = absurd (cc)
clash_numbers n line k ts (Some c) found is few fits e =
    let clash = (clash_is_least n ts c is).0 in
    let same : TwoWriters line c.first c.second c.slot ≡ found = cc in
    subst HasBranchNumbers same (omega (arith, few, fits, slice_get_within ts c.first clash.one clash.is_first), omega (arith, few, fits, slice_get_within ts c.second clash.other clash.is_second))

alias_numbers : (line : ℕ) (o : Option ℕ) (found : Offence) → alias line o ≡ Some found → HasBranchNumbers found
alias_numbers line None found e = absurd (cc)
alias_numbers line (Some x) found e = let same : Alias line x ≡ found = cc in subst HasBranchNumbers same tt

some_or : {A : Type 0} (a b : Option A) (x : A) → option_or a b ≡ Some x → (a ≡ Some x) ⊎ (b ≡ Some x)
some_or None b x e = inr e
some_or (Some y) b x e = inl e

numbers_among : (k : ℕ) (sorts : List Sort) (ps : List SharingPlace) (found : Offence) → k < 2 ^ 32 → ForksWithin k ps → first_offence sorts ps ≡ Some found → HasBranchNumbers found
numbers_among k sorts [] found fits h e = absurd (cc)
numbers_among k sorts (Fork line branches ∷ ps) found fits h e =
    elim (some_or (offence_at sorts (Fork line branches)) (first_offence sorts ps) found e) [
      | inl here ↦ clash_numbers (length sorts) line k (map (captures sorts) branches) _ found refl (omega (arith, h.0, length-map branches (captures sorts))) fits here
      | inr further ↦ numbers_among k sorts ps found fits h.1 further
    ]
numbers_among k sorts (Called line gs ∷ ps) found fits h e =
    elim (some_or (offence_at sorts (Called line gs)) (first_offence sorts ps) found e) [
      | inl here ↦ alias_numbers line (given_again [] gs) found here
      | inr further ↦ numbers_among k sorts ps found fits h further
    ]

pub offence_numbers : (all : List RFunction) (f : RFunction) (found : Offence) → FunctionHasRoom 0 f → first_offence f.slots (places_in all f.body) ≡ Some found → HasBranchNumbers found
offence_numbers all f found h e = numbers_among (extent f.body).size f.slots (places_in all f.body) found (omega (arith, h.fits)) ((body_within f.body).forks all) e
