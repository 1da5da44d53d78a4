use Rattle.std.proofs.Common.{[]}
use Rattle.shim_units.specs.Usages.{ShowUses}
use Rattle.shim_units.proofs.captures.make_usages.Given as goal

abbrev pub invariant-loop-slot : goal.invariant-loop-slot
invariant-loop-slot l = ShowUses l.usages.items l._slot []
