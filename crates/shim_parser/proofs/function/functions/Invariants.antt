use Rattle.std.proofs.Common.{◌-◌}
use Rattle.shim_parser.proofs.FunctionsExits.{FunctionsSoFar}
use Rattle.shim_parser.proofs.function.functions.Given as goal

abbrev pub invariant-functions : goal.invariant-functions
invariant-functions l = FunctionsSoFar l.fn.tokens l.tokens l.count l.all

abbrev pub decreases-functions : goal.decreases-functions
decreases-functions l = 1024 - l.count
