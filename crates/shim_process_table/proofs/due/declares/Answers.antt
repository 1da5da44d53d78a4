use Rattle.std.proofs.Common.{sym, ap, ◌∙◌}
use Rattle.shim_base.specs.Paths.{same_path}
use Rattle.shim_base.proofs.SamePaths.{same_path_is, same_path_refl}
use Rattle.shim_semantics.proofs.HowMany.{clash}
use Rattle.shim_process_table.proofs.due.declares.Goals as goal

pub returns-clause-own : goal.returns-clause-own
returns-clause-own g c e = sym c.path.ensures.path ∙ (same_path_is c.path.result.now c.home.result.now (sym c.eq.ensures ∙ e) ∙ c.home.ensures)

pub returns-clause-other : goal.returns-clause-other
returns-clause-other g c e same =
    let p = c.path.result.now in
    clash (same_path p c.home.result.now) (ap (same_path p) (c.home.ensures ∙ (sym same ∙ sym c.path.ensures.path)) ∙ same_path_refl p) (sym c.eq.ensures ∙ e)
