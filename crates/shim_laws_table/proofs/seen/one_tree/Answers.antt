use Rattle.shim_laws_table.proofs.OneTree.{one_tree}
use Rattle.shim_laws_table.proofs.seen.one_tree.Goals as goal

pub returns : goal.returns
returns g c = one_tree g.L.Local.ops
