use Rattle.shim_semantics.specs.Poison.{dooms}
use Rattle.shim_tree.specs.NodeStatus.{nodes}
use Rattle.shim_tree.specs.Beside.{nth_child}
use Rattle.shim_tree.proofs.Dooms.{other_dooms, same_dooms}
use Rattle.shim_tree.proofs.doom.is_another_dooming.Goals as goal

pub returns-then-i-at : goal.returns-then-i-at
returns-then-i-at g c = other_dooms c.args.i c.args.at _ _ c.if-i-at.true c.is_dooming_at.ensures

pub returns-else-i-at : goal.returns-else-i-at
returns-else-i-at g c =
    same_dooms c.args.i c.args.at (dooms g.L.Local.ops c.args.label c.args.c.now.channel (nth_child c.args.child.now (nodes c.args.statuses.now) c.args.i)) c.if-i-at.false
