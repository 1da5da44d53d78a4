use Rattle.std.proofs.Common.{length, ◌-◌}
use Rattle.shim_edge.proofs.Pieces.{Wrote}
use Rattle.shim_edge.proofs.sink.write_all.Given as goal

abbrev pub invariant-loop-at : goal.invariant-loop-at
invariant-loop-at g l =
    Wrote (g.K.Sink.taken l.initial.out) (g.K.Sink.faults l.initial.out) l.bytes l.at (g.K.Sink.taken l.out) (g.K.Sink.faults l.out)

abbrev pub decreases-loop-at : goal.decreases-loop-at
decreases-loop-at g l = length l.bytes - l.at
