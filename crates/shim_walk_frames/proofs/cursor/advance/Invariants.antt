use Rattle.std.proofs.Common.{◌-◌, length}
use Rattle.shim_walk_frames.specs.Cursors.{BeginsBefore}
use Rattle.shim_walk_frames.proofs.cursor.advance.Given as goal

abbrev pub invariant-loop-stmt : goal.invariant-loop-stmt
invariant-loop-stmt l = BeginsBefore l.body l.cursor l.at

abbrev pub decreases-loop-stmt : goal.decreases-loop-stmt
decreases-loop-stmt l = length l.body - l.cursor.index
