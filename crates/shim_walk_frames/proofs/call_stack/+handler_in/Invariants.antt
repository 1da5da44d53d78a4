use Rattle.std.proofs.Common.{length}
use Rattle.shim_walk_frames.proofs.call_stack.+handler_in.Given as goal

abbrev pub decreases-handler_in : goal.decreases-handler_in
decreases-handler_in l = length l.callers.now
