use Rattle.std.proofs.Common.{◌<◌, ◌+◌, length}
use Rattle.shim_semantics.specs.Trees.{steps}
use Rattle.shim_net.specs.Progress.{GoesOn}
use Rattle.shim_workers.specs.Progress.{HaveSteps}
use Rattle.shim_workers.proofs.in_rounds.run_round.Given as goal

abbrev pub invariant-loop-one : goal.invariant-loop-one
invariant-loop-one g l = record {
  goes_on : GoesOn g.L.Local.ops l.fn.net l.net;
  have : HaveSteps g.L.Local.ops l.net.grants;
  more : steps l.fn.net.tree + length l.fn.net.grants < steps l.net.tree + length l.net.grants;
}
