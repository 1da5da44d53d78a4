use Rattle.std.proofs.Common.{◌≡◌, drop, map}
use Rattle.shim_process.specs.Forks.{output_back}
use Rattle.shim_walk.proofs.process.output_back.Given as goal

abbrev pub invariant-loop-child : goal.invariant-loop-child
invariant-loop-child g l = output_back (map g.P.HasProcess.state (drop l.child-index l.children)) l.back ≡ output_back (map g.P.HasProcess.state l.children) l.initial.back
