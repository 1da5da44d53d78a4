use Rattle.shim_waits.proofs.Index.{IndexesRest}
use Rattle.shim_waits.proofs.explanation.index_of.Given as goal

abbrev pub invariant-loop-i : goal.invariant-loop-i
invariant-loop-i l = IndexesRest l.i l.index l.waits
