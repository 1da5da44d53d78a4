use Rattle.std.proofs.Common.{drop}
use Rattle.shim_local.specs.Laws.{AllOf}
use Rattle.shim_tests_values.proofs.beside.are_sound.Given as goal

abbrev pub invariant-loop-child : goal.invariant-loop-child
invariant-loop-child g l = AllOf g.L.Local.ops.sound (drop l.child-index l.children) → AllOf g.L.Local.ops.sound l.children
