use Rattle.shim_tests_board.specs.Turns.{HasTurn}
use Rattle.std.specs.Prelude.{All}
use Rattle.shim_board.specs.Chairs.{IsIdleOn}
use Rattle.shim_tests_board.proofs.calls.sixteen_chairs_work_at_64_slots.Given as goal

abbrev pub invariant-loop-first : goal.invariant-loop-first
invariant-loop-first g l = HasTurn 1 l.board l.one × All (IsIdleOn l.board) l.chairs.items
