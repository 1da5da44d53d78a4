use Rattle.shim_board.specs.Chairs.{StandsAs}
use Rattle.shim_tests_board.specs.Turns.{HasTurn}
use Rattle.shim_tests_board.proofs.workers.work_all.Given as goal

abbrev pub invariant-loop-slot : goal.invariant-loop-slot
invariant-loop-slot l = HasTurn 0 l.board l.chair × StandsAs l.fn.chair l.chair
