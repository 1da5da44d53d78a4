use Rattle.shim_workers.specs.Workers.{SameName}
use Rattle.shim_workers.proofs.stealing.schedule_net.Given as goal

abbrev pub invariant-loop : goal.invariant-loop
invariant-loop g l = SameName l.fn.net l.net
