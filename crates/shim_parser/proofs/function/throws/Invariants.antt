use Rattle.std.proofs.Common.{◌-◌}
use Rattle.shim_parser.proofs.FunctionExits.{ThrowsSoFar}
use Rattle.shim_parser.proofs.function.throws.Given as goal

abbrev pub invariant-more : goal.invariant-more
invariant-more l = ThrowsSoFar l.fn.tokens l.tokens l.count l.all

abbrev pub decreases-more : goal.decreases-more
decreases-more l = 16 - l.count
