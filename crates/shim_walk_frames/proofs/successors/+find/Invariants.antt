use Rattle.std.proofs.Common.{◌≡◌, ◌≤◌, drop}
use Rattle.shim_walk_frames.specs.Successors.{size_all}
use Rattle.shim_walk_frames.specs.Pieces.{at_all}
use Rattle.shim_walk_frames.proofs.successors.+find.Given as goal

abbrev pub invariant-find_all-loop-stmt : goal.invariant-find_all-loop-stmt
invariant-find_all-loop-stmt l = record {
  fewer : size_all (drop l.stmt-index l.body) ≤ size_all l.body;
  finds : at_all (drop l.stmt-index l.body) l.left ≡ at_all l.body l.at;
}
