use Rattle.shim_semantics.specs.Nodes.{Live}
use Rattle.shim_semantics.specs.Places.{branches}
use Rattle.shim_tree.proofs.LiveNodes.{is_no_empty_list}
use Rattle.shim_tree.proofs.QuietInPlace.{alone_below, nowhere}
use Rattle.shim_tree.proofs.in_place.go_quietly_live.Goals as goal

pub returns-else-is_empty : goal.returns-else-is_empty
returns-else-is_empty g c =
    let l = c.args.process.now in
    let pairs = c.args.pairs.now in
    nowhere g.L.Local.ops c.args.most _ (branches pairs) (Live l) (Live l) (alone_below l pairs (is_no_empty_list pairs c.is_empty.result c.is_empty.ensures c.if-is_empty.false))
