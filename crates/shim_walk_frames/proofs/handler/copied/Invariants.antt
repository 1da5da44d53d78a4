use Rattle.std.proofs.Common.{◌≡◌, ◌++◌, drop}
use Rattle.shim_walk_frames.proofs.handler.copied.Given as goal

abbrev pub invariant-loop-handler : goal.invariant-loop-handler
invariant-loop-handler l = l.copies ++ drop l.handler-index l.handlers ≡ l.handlers
