use Rattle.shim_board.specs.Chairs.{StandsAs}
use Rattle.shim_workers.specs.Workers.{HasTurn, SameName}
use Rattle.shim_workers.proofs.scheduling.schedule_net.Given as goal

abbrev pub invariant-loop : goal.invariant-loop
invariant-loop g l = HasTurn 1 l.board l.chair × StandsAs l.fn.chair l.chair × SameName l.fn.net l.net
