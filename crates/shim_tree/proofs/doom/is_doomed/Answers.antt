use Rattle.shim_tree.proofs.Dooms.{doomed_there, doomed_later, not_doomed}
use Rattle.shim_tree.proofs.doom.is_doomed.Goals as goal

pub returns-then-is_another_dooming : goal.returns-then-is_another_dooming
returns-then-is_another_dooming g c =
    doomed_there g.L.Local.ops c.args.label c.args.c.now.channel c.loop-i.i c.args.at c.args.children.now c.args.statuses.now c.loop-i.invariant
    c.index-children-i.result c.loop-i-test.true c.index-children-i.is c.is_another_dooming.result c.is_another_dooming.ensures c.if-is_another_dooming.true

pub loop-i-preserved : goal.loop-i-preserved
loop-i-preserved g c =
    doomed_later g.L.Local.ops c.args.label c.args.c.now.channel c.loop-i.i c.args.at c.args.children.now c.args.statuses.now c.loop-i.invariant
    c.index-children-i.result c.loop-i-test.true c.index-children-i.is c.is_another_dooming.result c.is_another_dooming.ensures c.if-is_another_dooming.false

pub returns : goal.returns
returns g c = not_doomed g.L.Local.ops c.args.label c.args.c.now.channel c.loop-i.i c.args.at c.args.children.now c.args.statuses.now c.loop-i.invariant c.loop-i-test.false
