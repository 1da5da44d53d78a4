use Rattle.std.proofs.Common.{ℕ, ◌+◌, ◌*◌}
use Rattle.shim_tests_values.specs.Kept.{StaysChild, StayChildren}
use Rattle.shim_tests_values.proofs.tracing.+trace.Given as goal

-- a level is left with each fork
abbrev pub decreases-trace : goal.decreases-trace
decreases-trace g l = 4 * l.levels + 2

abbrev pub decreases-go_on : goal.decreases-go_on
decreases-go_on g l = 4 * l.levels + 1

abbrev pub decreases-fork : goal.decreases-fork
decreases-fork g l = 4 * l.levels

abbrev pub decreases-trace_all : goal.decreases-trace_all
decreases-trace_all g l = 4 * l.levels + 3

abbrev pub invariant-trace-loop-stop : goal.invariant-trace-loop-stop
invariant-trace-loop-stop g l = StaysChild g.L.Local.ops l.fn.process l.process

abbrev pub invariant-trace_all-loop-at : goal.invariant-trace_all-loop-at
invariant-trace_all-loop-at g l = StayChildren g.L.Local.ops l.fn.children.items l.children.items
