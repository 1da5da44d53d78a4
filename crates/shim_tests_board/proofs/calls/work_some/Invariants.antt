use Rattle.shim_tests_board.specs.Turns.{HasTurn}
use Rattle.shim_tests_board.proofs.calls.work_some.Given as goal

abbrev pub invariant-loop-slot : goal.invariant-loop-slot
invariant-loop-slot l = HasTurn l.fn.chair.seat.me.0.turn l.board l.chair
