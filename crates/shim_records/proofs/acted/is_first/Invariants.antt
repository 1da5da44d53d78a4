use Rattle.shim_records.specs.Acted.{Earlier}
use Rattle.shim_records.proofs.acted.is_first.Given as goal

abbrev pub invariant-loop-at : goal.invariant-loop-at
invariant-loop-at g l = Earlier g.L.Local.ops l.process l.c.channel l.at → ⊥
