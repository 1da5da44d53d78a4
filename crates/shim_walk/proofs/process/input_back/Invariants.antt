use Rattle.std.proofs.Common.{◌≡◌, drop, map}
use Rattle.shim_process.specs.Forks.{input_back}
use Rattle.shim_walk.proofs.process.input_back.Given as goal

abbrev pub invariant-loop-child : goal.invariant-loop-child
invariant-loop-child g l = input_back (map g.P.HasProcess.state (drop l.child-index l.children)) l.back ≡ input_back (map g.P.HasProcess.state l.children) l.initial.back
