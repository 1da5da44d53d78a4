use Rattle.std.proofs.Common.{◌≡◌}
use Rattle.shim_semantics.specs.Trees.{steps}
use Rattle.shim_tests_runs.proofs.orders.do_events_by.Given as goal

-- each event counted one step
abbrev pub invariant-loop-turn : goal.invariant-loop-turn
invariant-loop-turn g l = steps l.tree ≡ l.turn
