use Rattle.std.proofs.Common.{◌≡◌, take}
use Rattle.shim_units.specs.Moving.{slot_indices_of}
use Rattle.shim_units.proofs.exceptions.ExceptionList.indices_of.Given as goal

abbrev pub invariant-loop-exception : goal.invariant-loop-exception
invariant-loop-exception l = l.made ≡ slot_indices_of l.self (take l.exception-index l.exceptions)
