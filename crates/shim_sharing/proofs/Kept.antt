-- What is kept is what is answered to some program.
use mathlib.Core.Logic.{∥∥₁_map}
use Rattle.std.proofs.Common.{◌≡◌, ◌∙◌, Option, None, Some, Ok, refl, ap}
use Rattle.shim_sharing.specs.Accepting.{unless_refused}
use Rattle.shim_sharing.specs.Laws.{IsAccepted}
use Rattle.shim_sharing.specs.Refusals.{refusal}
use Rattle.shim_sharing.specs.declared.fault.ShareFault.{ShareFault}
use Rattle.shim_units.specs.declared.form.Form.{Form}
use Rattle.shim_units.specs.OfText.{IsUnitsOfText, IsAcceptedForm}
use Rattle.shim_units.specs.Units.{lifted}
use Rattle.shim_sharing.proofs.Rule.{obeys_unless_refused, none_where_obeyed}
use Rattle.shim_sharing.proofs.UnitSizes.{its_form, kept}

not_refused : (o : Option ShareFault) (made form : Form) → unless_refused o made ≡ Ok form → o ≡ None
not_refused None made form e = refl
not_refused (Some fault) made form e = cc

answered : (form : Form) → IsUnitsOfText form → IsAccepted form
answered form u = record {
  resolved = u.resolved;
  of_text = u.of_text;
  is_answer = ap (λ o. unless_refused o (lifted u.resolved)) (none_where_obeyed u.resolved u.obeys) ∙ ap Ok u.meant;
}

units_of : (form : Form) → IsAccepted form → IsUnitsOfText form
units_of form a = record {
  resolved = a.resolved;
  of_text = a.of_text;
  obeys = obeys_unless_refused a.resolved (not_refused (refusal a.resolved) (lifted a.resolved) form a.is_answer);
  meant = its_form (refusal a.resolved) (lifted a.resolved) form a.is_answer;
}

pub kept_is_answered : (form : Form) → IsAcceptedForm form → ∥ IsAccepted form ∥₁
kept_is_answered form k = ∥∥₁_map k.of_text (answered form)

pub answered_is_kept : (form : Form) → ∥ IsAccepted form ∥₁ → IsAcceptedForm form
answered_is_kept form a = kept form (∥∥₁_map a (units_of form))
