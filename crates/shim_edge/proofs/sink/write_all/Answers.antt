use Rattle.shim_edge.proofs.Pieces.{wrote_more}
use Rattle.shim_edge.proofs.sink.write_all.Goals as goal

pub loop-at-preserved : goal.loop-at-preserved
loop-at-preserved g c =
    wrote_more _ _ _ _ _ _ _ _ _ c.loop-at.invariant c.in_ok-at.ensures.count.1 c.in_ok-at.ensures.taken c.in_ok-at.ensures.uncounted
