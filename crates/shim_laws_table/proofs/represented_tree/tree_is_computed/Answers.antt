use Rattle.shim_laws_table.proofs.RepresentedTree.{tree_is_computed}
use Rattle.shim_laws_table.proofs.represented_tree.tree_is_computed.Goals as goal

pub returns : goal.returns
returns g c = tree_is_computed g.L.Local.ops
