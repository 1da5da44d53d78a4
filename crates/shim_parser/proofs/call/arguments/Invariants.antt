use Rattle.std.proofs.Common.{length}
use Rattle.shim_parser.proofs.CallExits.{ArgumentsSoFar}
use Rattle.shim_parser.proofs.call.arguments.Given as goal

abbrev pub invariant-more : goal.invariant-more
invariant-more l = ArgumentsSoFar l.level l.count l.fn.tokens l.tokens l.all

abbrev pub decreases-more : goal.decreases-more
decreases-more l = length l.tokens.rest
