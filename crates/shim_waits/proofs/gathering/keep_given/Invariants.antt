use Rattle.shim_waits.proofs.Keeping.{KeepsRest}
use Rattle.shim_waits.proofs.gathering.keep_given.Given as goal

abbrev pub invariant-loop-at : goal.invariant-loop-at
invariant-loop-at g l = KeepsRest g.L.Local.ops l.node l.number l.at l.fn.holders l.holders
