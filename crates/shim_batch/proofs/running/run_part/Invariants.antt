use Rattle.shim_batch.specs.Runs.{RunsToEnd}
use Rattle.shim_batch.proofs.Runs.{ZipsOn}
use Rattle.shim_batch.proofs.running.run_part.Given as goal

abbrev pub invariant-loop-net : goal.invariant-loop-net
invariant-loop-net g l = ZipsOn (RunsToEnd g.L.Local.ops) l.fn.nets l.done l.net-iterator.rest.items
