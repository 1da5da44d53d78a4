use Rattle.shim_batch.proofs.Joining.{JoinsOn}
use Rattle.shim_batch.proofs.parts.join.Given as goal

abbrev pub invariant-loop-part : goal.invariant-loop-part
invariant-loop-part g l = JoinsOn l.fn.parts.items l.values l.part-iterator.rest.items
