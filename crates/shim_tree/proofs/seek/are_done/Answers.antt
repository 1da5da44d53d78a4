use Rattle.shim_tree.proofs.Seeks.{one_done, one_goes}
use Rattle.shim_tree.proofs.seek.are_done.Goals as goal

pub returns-then-is_going_at : goal.returns-then-is_going_at
returns-then-is_going_at g c = one_goes c.loop-i.i c.args.children.now c.args.statuses.now c.is_going_at.result _ c.loop-i-test.true c.is_going_at.ensures c.loop-i.invariant c.if-is_going_at.true

pub loop-i-preserved : goal.loop-i-preserved
loop-i-preserved g c = one_done c.loop-i.i c.args.children.now c.args.statuses.now c.is_going_at.result _ c.loop-i-test.true c.is_going_at.ensures c.loop-i.invariant c.if-is_going_at.false
