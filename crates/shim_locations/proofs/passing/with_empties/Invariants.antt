use Rattle.std.proofs.Common.{◌≡◌, ◌++◌, drop}
use Rattle.shim_process.specs.Arguments.{empties}
use Rattle.shim_locations.proofs.passing.with_empties.Given as goal

abbrev pub invariant-loop-sort : goal.invariant-loop-sort
invariant-loop-sort l = l.all ++ empties (drop l._sort-index l.declared) ≡ l.initial.all ++ empties l.declared
