use Rattle.std.proofs.Common.{sym, ◌∙◌, arith}
use Rattle.shim_tree.proofs.NodeRefs.{child_there_is}
use Rattle.shim_waits.proofs.Children.{from_all, found_sharer, passed_child, none_shares}
use Rattle.shim_waits.proofs.holding.any_child_shares.Goals as goal
use Rattle.shim_waits.proofs.holding.any_child_shares.Goals.{in-Some+else-goes_and_shares, in_default}

pub loop-i-init : goal.loop-i-init
loop-i-init g c = from_all g.L.Local.ops c.args.c.now.channel c.args.node.now

pub returns-then-goes_and_shares : goal.returns-then-goes_and_shares
returns-then-goes_and_shares g c = found_sharer g.L.Local.ops c.args.c.now.channel c.loop-i.i c.args.node.now c.in-Some.child (sym c.in-Some.ensures) (sym c.goes_and_shares.ensures ∙ c.if-goes_and_shares.true) c.loop-i.invariant

pub loop-i-preserved : goal.loop-i-preserved
loop-i-preserved g c = elim c.match-child.branch [
  | in-Some+else-goes_and_shares w ↦ passed_child g.L.Local.ops c.args.c.now.channel c.loop-i.i c.args.node.now w.in-Some.child (sym w.in-Some.ensures) (sym w.goes_and_shares.ensures ∙ w.if-goes_and_shares.false) c.loop-i.invariant
  | in_default w ↦ absurd (child_there_is c.loop-i.i c.args.node.now (let h = c.loop-i-test.true in let k = c.children-i-end.ensures in omega (arith, h, k)) (sym c.child.ensures ∙ w.in_default.is))
]

pub returns : goal.returns
returns g c = none_shares g.L.Local.ops c.args.c.now.channel c.loop-i.i c.args.node.now (let h = c.loop-i-test.false in let k = c.children-i-end.ensures in omega (arith, h, k)) c.loop-i.invariant
