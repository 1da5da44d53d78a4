use Rattle.shim_board.specs.Chairs.{StandsAs}
use Rattle.shim_workers.specs.Workers.{HasTurn}
use Rattle.shim_workers.proofs.stealing.run_stealer.Given as goal

abbrev pub invariant-loop : goal.invariant-loop
invariant-loop g l = (goal.iterator-loop g).can_next l.iterator' × (goal.iterator-loop g).is_finite l.iterator'
    × HasTurn 0 l.board l.chair × StandsAs l.fn.start.0 l.chair
