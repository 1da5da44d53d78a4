use Rattle.std.proofs.Common.{◌≡◌, ◌+◌, drop}
use Rattle.shim_walk_frames.specs.Successors.{size_all}
use Rattle.shim_walk_frames.proofs.successors.+size.Given as goal

abbrev pub invariant-size_all-loop-stmt : goal.invariant-size_all-loop-stmt
invariant-size_all-loop-stmt l = l.size + size_all (drop l.stmt-index l.body) ≡ size_all l.body
