use Rattle.std.proofs.Common.{◌∙◌}
use Rattle.shim_tree.specs.NodeStatus.{node}
use Rattle.shim_tree.proofs.Swaps.{swapped_on}
use Rattle.shim_tree.proofs.advance.swap_on.Goals as goal

pub returns : goal.returns
returns g c =
    let m = c.args.last.now in
    swapped_on m (g.L.Local.ops.path c.args.root.now) c.pairs-front.result.now (g.L.Local.ops.path m) (node c.args.root.now c.args.status.now) (node c.swap_at.new.process c.swap_at.new.status)
    (c.pairs-front.ensures ∙ c.path.ensures.path) c.swap_at.ensures
