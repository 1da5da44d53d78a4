use Rattle.shim_laws_table.proofs.Shown.{one_change_is_represented}
use Rattle.shim_laws_table.proofs.seen.one_change_is_represented.Goals as goal

pub returns : goal.returns
returns g c = one_change_is_represented g.L.Local.ops
