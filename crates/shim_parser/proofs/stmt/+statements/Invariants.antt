use Rattle.std.proofs.Common.{◌+◌, ◌-◌, ◌*◌, length}
use Rattle.shim_parser.proofs.StmtExits.{BlockSoFar, ForkSoFar}
use Rattle.shim_parser.proofs.stmt.+statements.Given as goal

abbrev pub decreases-block : goal.decreases-block
decreases-block l = 20 * (70 - l.level) + 10

abbrev pub decreases-body : goal.decreases-body
decreases-body l = 20 * (70 - l.level) + 11

abbrev pub decreases-braced : goal.decreases-braced
decreases-braced l = 20 * (70 - l.level) + 5

abbrev pub decreases-branch : goal.decreases-branch
decreases-branch l = 20 * (70 - l.level) + 3

abbrev pub decreases-block_branch : goal.decreases-block_branch
decreases-block_branch l = 20 * (70 - l.level) + 2

abbrev pub decreases-branches : goal.decreases-branches
decreases-branches l = 20 * (70 - l.level) + 4

abbrev pub decreases-for_loop : goal.decreases-for_loop
decreases-for_loop l = 20 * (70 - l.level) + 5

abbrev pub decreases-if_statement : goal.decreases-if_statement
decreases-if_statement l = 20 * (70 - l.level) + 5

abbrev pub decreases-named : goal.decreases-named
decreases-named l = 20 * (70 - l.level) + 5

abbrev pub decreases-statement : goal.decreases-statement
decreases-statement l = 20 * (70 - l.level) + 9

abbrev pub decreases-try_statement : goal.decreases-try_statement
decreases-try_statement l = 20 * (70 - l.level) + 5

abbrev pub decreases-while_loop : goal.decreases-while_loop
decreases-while_loop l = 20 * (70 - l.level) + 5

abbrev pub invariant-block-statements : goal.invariant-block-statements
invariant-block-statements l = BlockSoFar l.level l.fn.tokens l.tokens l.all

abbrev pub decreases-block-statements : goal.decreases-block-statements
decreases-block-statements l = length l.tokens.rest

abbrev pub invariant-branches-branches : goal.invariant-branches-branches
invariant-branches-branches l = ForkSoFar l.level l.count l.fn.first_branch l.fn.tokens l.tokens l.all

abbrev pub decreases-branches-branches : goal.decreases-branches-branches
decreases-branches-branches l = length l.tokens.rest
