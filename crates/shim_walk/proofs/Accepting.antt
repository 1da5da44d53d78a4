-- That the program of a process is an accepted one.
use Rattle.std.proofs.Common.{◌≡◌, ◌∙◌, ◌<◌, ◌^◌, ℕ, List, length, refl, ap, sym, subst}
use Rattle.shim_units.specs.declared.form.Form.{Form}
use Rattle.shim_units.specs.OfText.{IsUnitsOfText, IsAcceptedForm}
use Rattle.shim_units.specs.Sizes.{AreFit}
use Rattle.shim_process.specs.Forks.{root}
use Rattle.shim_process.specs.LocalState.{LocalState}
use Rattle.shim_process.specs.Sound.{Sound}
use Rattle.shim_process.proofs.PlaceRoot.{root_sound}
use Rattle.shim_laws_sources.proofs.Units.{units_use_slots_of_their_own}

-- what holds of an accepted program
pub accepted : (p a b : Form) (throws : List ℕ) → a ≡ p → b ≡ p → ∥ IsUnitsOfText a ∥₁ → AreFit a.units → throws ≡ b.main_throws → length throws < 2 ^ 21 → IsAcceptedForm p
accepted p a b throws ea eb of fit is few = record {
  of_text = subst (λ p. ∥ IsUnitsOfText p ∥₁) ea of;
  fit = subst (λ p. AreFit p.units) ea fit;
  few = subst (λ ns. length ns < 2 ^ 21) (is ∙ ap (λ p. p.main_throws) eb) few;
}

pub root_program : (program : Form) (input : List ℕ) → (root program input).program ≡ program
unfolding root
root_program program input = refl

-- the process that runs `main` of an accepted program begins in a sound state
pub begins_sound : (program : Form) (input : List ℕ) (l : LocalState) → l ≡ root program input → IsAcceptedForm l.program → Sound l
begins_sound program input l e kept =
    let is : IsAcceptedForm program = subst IsAcceptedForm (ap (λ (m : LocalState). m.program) e ∙ root_program program input) kept in
    subst Sound (sym e) (root_sound program input (units_use_slots_of_their_own program is))
