use Rattle.std.proofs.Common.{take}
use Rattle.shim_units.proofs.Marks.{AreMarked}
use Rattle.shim_units.proofs.exceptions.distinct.Given as goal

abbrev pub invariant-loop-one : goal.invariant-loop-one
invariant-loop-one l = AreMarked l.marks.items l.made.items (take l.one-index l.numbers)
