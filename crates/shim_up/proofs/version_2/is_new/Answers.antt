use Rattle.std.proofs.Common.{◌∙◌, sym, ap, is_some}
use Rattle.shim_up.proofs.LeastNew.{new_by_place}
use Rattle.shim_up.proofs.version_2.is_new.Goals as goal

pub returns : goal.returns
returns c = new_by_place c.args.name.now c.args.names.now c.is_none.result (ap is_some (sym c.find.ensures) ∙ c.is_none.ensures)
