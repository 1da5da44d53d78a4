use Rattle.std.proofs.Common.{◌-◌}
use Rattle.shim_parser.proofs.FunctionExits.{ParamsSoFar}
use Rattle.shim_parser.proofs.function.parameters.Given as goal

abbrev pub invariant-more : goal.invariant-more
invariant-more l = ParamsSoFar l.fn.tokens l.tokens l.count l.all

abbrev pub decreases-more : goal.decreases-more
decreases-more l = 32 - l.count
