use Rattle.std.proofs.Common.{◌≡◌, ◌++◌, vec_len}
use Rattle.shim_batch.specs.Parts.{concatenated}
use Rattle.shim_batch.proofs.parts.cut.Given as goal

-- what is cut, and then what is left, is the whole
abbrev pub invariant-loop-rest : goal.invariant-loop-rest
invariant-loop-rest g l = concatenated l.parts.items ++ l.rest.items ≡ l.fn.values

abbrev pub decreases-loop-rest : goal.decreases-loop-rest
decreases-loop-rest g l = vec_len l.rest
