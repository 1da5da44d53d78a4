use Rattle.std.proofs.Common.{length}
use Rattle.shim_workers.specs.Workers.{SameName}
use Rattle.shim_workers.proofs.collecting.redo_lost.Given as goal

abbrev pub invariant-loop-net : goal.invariant-loop-net
invariant-loop-net g l = SameName l.fn.net l.net

abbrev pub decreases-loop-net : goal.decreases-loop-net
decreases-loop-net g l = length l.net.grants
