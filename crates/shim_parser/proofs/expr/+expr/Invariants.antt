use Rattle.std.proofs.Common.{◌+◌, ◌-◌, ◌*◌, length}
use Rattle.shim_parser.proofs.ExprExits.{ChainSoFar}
use Rattle.shim_parser.proofs.expr.+expr.Given as goal

abbrev pub decreases-operand : goal.decreases-operand
decreases-operand l = 20 * (70 - l.level) + 1

abbrev pub decreases-operand_of : goal.decreases-operand_of
decreases-operand_of l = 20 * (70 - l.level)

abbrev pub decreases-row : goal.decreases-row
decreases-row l = 20 * (70 - l.level) + l.n + 2

abbrev pub invariant-row-operators : goal.invariant-row-operators
invariant-row-operators l = ChainSoFar l.n l.level l.fn.tokens l.tokens l.left

abbrev pub decreases-row-operators : goal.decreases-row-operators
decreases-row-operators l = length l.tokens.rest
