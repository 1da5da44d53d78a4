use Rattle.shim_workers.specs.Workers.{SameName}
use Rattle.shim_workers.proofs.pieces.Pieces.take_in_all.Given as goal

abbrev pub invariant-loop : goal.invariant-loop
invariant-loop g l = SameName l.fn.net l.net
