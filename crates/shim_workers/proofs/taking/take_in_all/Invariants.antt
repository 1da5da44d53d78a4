use Rattle.shim_net.specs.Progress.{GoesOn}
use Rattle.shim_workers.specs.Progress.{HaveSteps}
use Rattle.shim_workers.proofs.taking.take_in_all.Given as goal

abbrev pub invariant-loop-finished : goal.invariant-loop-finished
invariant-loop-finished g l = record {
  goes_on : GoesOn g.L.Local.ops l.fn.net l.net;
  steps : HaveSteps g.L.Local.ops l.net.grants;
}
