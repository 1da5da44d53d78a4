use Rattle.shim_waits.proofs.Index.{AreFirstTo}
use Rattle.shim_waits.proofs.explanation.are_first.Given as goal

abbrev pub invariant-loop-i : goal.invariant-loop-i
invariant-loop-i l = AreFirstTo l.i l.waits
