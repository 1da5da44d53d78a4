use Rattle.shim_walk_frames.proofs.Counting.{counted_all}
use Rattle.shim_walk_frames.proofs.call_stack.variables_in.Goals as goal

pub returns : goal.returns
returns c =
    counted_all c.args.top.now c.as_slice-caller-items.result.now c.args.callers.now c.loop-caller.caller-index c.loop-caller.many c.loop-caller-test.false c.as_slice-caller-items.ensures c.loop-caller.invariant
