use Rattle.std.proofs.Common.{sym, subst}
use Rattle.std.proofs.lemmas.Grind.{merely}
use Rattle.shim_scopes.specs.Resolving.{IsFormOfText}
use Rattle.shim_sharing.proofs.UnitSizes.{kept, program_has_room, functions_have_room}
use Rattle.shim_sharing.proofs.Rule.{obeys_unless_refused}
use Rattle.shim_sharing.proofs.Accepting as exits
use Rattle.shim_sharing.proofs.program.accept.Goals as goal

pub from_form-requires : goal.from_form-requires
from_form-requires c = kept _ (merely (record {
  resolved = c.args.resolved;
  of_text = subst (λ f. ∥ IsFormOfText f ∥₁) c.resolved.view_is c.resolved.invariant;
  obeys = obeys_unless_refused c.args.resolved (rw (c.functions.ensures, c.names.ensures) at c.in_ok-check.ensures);
  meant = sym c.in_ok-form.ensures;
}))

pub check-requires : goal.check-requires
check-requires c =
    rw (c.functions.ensures) (functions_have_room _ c.args.resolved.functions (program_has_room c.args.resolved (subst (λ f. ∥ IsFormOfText f ∥₁) c.resolved.view_is c.resolved.invariant)))

pub lift_program-requires : goal.lift_program-requires
lift_program-requires c = program_has_room c.args.resolved (subst (λ f. ∥ IsFormOfText f ∥₁) c.resolved.view_is c.resolved.invariant)

pub returns-clause-obeys : goal.returns-clause-obeys
returns-clause-obeys c = obeys_unless_refused c.args.resolved (rw (c.functions.ensures, c.names.ensures) at c.in_ok-check.ensures)

pub returns-in_err-check-clause-refused : goal.returns-in_err-check-clause-refused
returns-in_err-check-clause-refused c = exits.refused c.args.resolved _ _ c.from_residual.ensures (rw (c.functions.ensures, c.names.ensures) at c.in_err-check.ensures)

pub returns-in_err-check-clause-first : goal.returns-in_err-check-clause-first
returns-in_err-check-clause-first c = exits.first c.args.resolved _ _ c.from_residual.ensures (rw (c.functions.ensures, c.names.ensures) at c.in_err-check.ensures)
