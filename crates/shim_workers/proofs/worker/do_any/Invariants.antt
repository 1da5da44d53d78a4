use Rattle.shim_board.specs.Chairs.{StandsAs}
use Rattle.shim_workers.specs.Workers.{HasTurn}
use Rattle.shim_workers.proofs.worker.do_any.Given as goal

abbrev pub invariant-loop-at : goal.invariant-loop-at
invariant-loop-at g l = HasTurn 0 l.board l.chair × StandsAs l.fn.chair l.chair
