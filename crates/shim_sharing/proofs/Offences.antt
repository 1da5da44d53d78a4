-- The first of two texts that is refused.
use Rattle.std.proofs.Common.{◌≡◌, ◌∙◌, List, [], ◌∷◌, ◌++◌, Option, Some, None, refl, ap}
use Rattle.std.specs.Option.{option_or}
use Rattle.shim_syntax.specs.declared.tree.Sort.{Sort}
use Rattle.shim_sharing.specs.declared.found.Offence.{Offence}
use Rattle.shim_units.specs.Parts.{SharingPlace}
use Rattle.shim_sharing.specs.Sharing.{offence_at, first_offence}

or_both : (a b c : Option Offence) → option_or a (option_or b c) ≡ option_or (option_or a b) c
or_both None b c = refl
or_both (Some x) b c = refl

pub first_of_both : (sorts : List Sort) (ps qs : List SharingPlace) → first_offence sorts (ps ++ qs) ≡ option_or (first_offence sorts ps) (first_offence sorts qs)
first_of_both sorts [] qs = refl
first_of_both sorts (p ∷ ps) qs = ap (option_or (offence_at sorts p)) (first_of_both sorts ps qs) ∙ or_both (offence_at sorts p) (first_offence sorts ps) (first_offence sorts qs)

-- where the first of two texts is refused
pub refused_here : (sorts : List Sort) (ps qs : List SharingPlace) (found : Offence) → first_offence sorts ps ≡ Some found → first_offence sorts (ps ++ qs) ≡ Some found
refused_here sorts ps qs found is = first_of_both sorts ps qs ∙ ap (λ o. option_or o (first_offence sorts qs)) is

-- and where it isn't
pub refused_further : (sorts : List Sort) (ps qs : List SharingPlace) → first_offence sorts ps ≡ None → first_offence sorts (ps ++ qs) ≡ first_offence sorts qs
refused_further sorts ps qs is = first_of_both sorts ps qs ∙ ap (λ o. option_or o (first_offence sorts qs)) is
