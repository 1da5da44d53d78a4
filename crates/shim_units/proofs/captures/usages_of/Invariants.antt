use Rattle.std.proofs.Common.{take}
use Rattle.shim_units.specs.Usages.{ShowUses}
use Rattle.shim_units.proofs.captures.usages_of.Given as goal

abbrev pub invariant-loop-found : goal.invariant-loop-found
invariant-loop-found l = ShowUses l.usages.items l.count (take l.found-index l.uses)
