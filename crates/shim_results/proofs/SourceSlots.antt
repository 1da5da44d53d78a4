-- The units of a source use slots of their own.
use Rattle.std.proofs.Common.{◌≡◌, ℕ, List, Option, Some, None, Result, Ok, Err, refl, subst}
use Rattle.shim_syntax.specs.declared.Program.{Program}
use Rattle.shim_scopes.specs.declared.form.Form.{Form as Resolved}
use Rattle.shim_scopes.specs.Refusals.{Refusal}
use Rattle.shim_scopes.specs.Functions.{bind_program}
use Rattle.shim_units.specs.declared.form.Form.{Form}
use Rattle.shim_units.specs.Units.{lifted}
use Rattle.shim_sharing.specs.Accepting.{unless_refused}
use Rattle.shim_sharing.specs.Refusals.{refusal}
use Rattle.shim_sharing.specs.declared.ShareFault.{ShareFault}
use Rattle.shim_process.specs.OwnSlots.{UsesOwnSlots}
use Rattle.shim_laws_sources.proofs.Units.{lifted_use_own}
use Rattle.shim_front_end.specs.Source.{Source, IsSource, sharing_result, bound}

same_form : (o : Option ShareFault) (made source : Form) → sharing_result (unless_refused o made) ≡ Ok source → made ≡ source
same_form None made source e = cc
same_form (Some fault) made source e = absurd cc

was_bound : (program : Program) (r : Result Resolved Refusal) (source : Source) → bind_program program ≡ r → bound r ≡ Ok source → UsesOwnSlots source
was_bound program (Ok resolved) source is e = subst UsesOwnSlots (same_form (refusal resolved) (lifted resolved) source e) (lifted_use_own program resolved is)
was_bound program (Err r) source is e = absurd cc

pub source_uses_own_slots : (bytes : List ℕ) (source : Source) → IsSource bytes source → UsesOwnSlots source
source_uses_own_slots bytes source has = was_bound has.program (bind_program has.program) source refl has.units
