use Rattle.std.proofs.Common.{◌≡◌, drop, map}
use Rattle.shim_process.specs.Forks.{all_back}
use Rattle.shim_walk.proofs.process.regain_all.Given as goal

abbrev pub invariant-loop-branch : goal.invariant-loop-branch
invariant-loop-branch g l = all_back l.slots (drop l.branch-index l.branches) (map g.P.HasProcess.state l.remainder) l.locations ≡ all_back l.slots l.branches (map g.P.HasProcess.state l.children) l.initial.locations
