-- Two programs that were read from the same text are the same.
use Rattle.std.proofs.Common.{◌≡◌, ℕ, List, Some, Result, Ok, sym, ap, subst, ◌∙◌}
use Rattle.std.proofs.Math.Logic.{∥∥₁_elim}
use Rattle.std.specs.Coded.{Coded-set}
use Rattle.shim_scopes.specs.declared.form.Form.{Form as Resolved}
use Rattle.shim_scopes.specs.Functions.{bind_program}
use Rattle.shim_scopes.specs.Refusals.{Refusal}
use Rattle.shim_units.specs.contracts.form.Form as form
use Rattle.shim_units.specs.declared.form.Form.{Form}
use Rattle.shim_units.specs.OfText.{IsUnitsOfBytes, FitsKeptText}
use Rattle.shim_units.specs.Units.{lifted}

same_ok : (r : Result Resolved Refusal) (a b : Resolved) → r ≡ Ok a → r ≡ Ok b → a ≡ b
same_ok r a b one other = cc

same_read : (bytes : List ℕ) (f g : Form) → IsUnitsOfBytes bytes f → IsUnitsOfBytes bytes g → f ≡ g
same_read bytes f g h k =
    let program = h.only k.program k.text in
    let resolved = same_ok (bind_program h.program) h.resolved k.resolved h.bound (sym (ap bind_program program) ∙ k.bound) in
    sym h.meant ∙ ap lifted resolved ∙ k.meant

-- two that keep the same text
pub same_text : (a b : List ℕ) (f g : Form) → a ≡ b → FitsKeptText (Some a) f → FitsKeptText (Some b) g → f ≡ g
same_text a b f g is one other =
    ∥∥₁_elim one (Coded-set form.the_row.coded _ _) (λ h. ∥∥₁_elim other (Coded-set form.the_row.coded _ _) (λ k. same_read b f g (subst (λ t. IsUnitsOfBytes t f) is h) k))
