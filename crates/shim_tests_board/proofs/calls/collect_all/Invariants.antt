use Rattle.shim_tests_board.specs.Turns.{HasTurn}
use Rattle.shim_tests_board.proofs.calls.collect_all.Given as goal

abbrev pub invariant-loop-slot : goal.invariant-loop-slot
invariant-loop-slot l = HasTurn 1 l.board l.chair
