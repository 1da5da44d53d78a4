use Rattle.shim_workers.specs.Workers.{SameName}
use Rattle.shim_workers.proofs.at_home.AtHome.run.Given as goal

abbrev pub invariant-loop : goal.invariant-loop
invariant-loop g l = SameName l.fn.net l.net
