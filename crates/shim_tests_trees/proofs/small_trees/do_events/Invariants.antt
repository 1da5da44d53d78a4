use Rattle.std.proofs.Common.{◌≡◌}
use Rattle.shim_semantics.specs.Trees.{steps}
use Rattle.shim_tests_trees.proofs.small_trees.do_events.Given as goal

-- each event counted one step
abbrev pub invariant-loop : goal.invariant-loop
invariant-loop g l = steps l.tree ≡ l.counter
