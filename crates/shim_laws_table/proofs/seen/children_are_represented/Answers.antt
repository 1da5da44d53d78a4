use Rattle.shim_laws_table.proofs.Children.{children_are_represented}
use Rattle.shim_laws_table.proofs.seen.children_are_represented.Goals as goal

pub returns : goal.returns
returns g c = children_are_represented g.L.Local.ops
