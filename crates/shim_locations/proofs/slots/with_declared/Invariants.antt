use Rattle.std.proofs.Common.{◌≡◌, ◌++◌, drop}
use Rattle.shim_process.specs.Arguments.{numbers_from}
use Rattle.shim_locations.proofs.slots.with_declared.Given as goal

abbrev pub invariant-loop-sort : goal.invariant-loop-sort
invariant-loop-sort l = l.all ++ numbers_from l.next (drop l._sort-index l.declared) ≡ l.initial.all ++ numbers_from l.initial.next l.declared
