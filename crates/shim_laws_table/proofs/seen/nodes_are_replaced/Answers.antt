use Rattle.shim_laws_table.proofs.SameTrees.{nodes_are_replaced}
use Rattle.shim_laws_table.proofs.seen.nodes_are_replaced.Goals as goal

pub returns : goal.returns
returns g c = nodes_are_replaced g.L.Local.ops
