use Rattle.shim_laws_table.proofs.CanHappen.{enabled_are_found}
use Rattle.shim_laws_table.proofs.enabled.enabled_are_found.Goals as goal

pub returns : goal.returns
returns g c = enabled_are_found g.L.Local.ops
