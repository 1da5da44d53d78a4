use Rattle.std.proofs.Common.{ℕ, ◌+◌, ◌*◌}
use Rattle.shim_tests_values.specs.Kept.{StaysChild, StayChildren}
use Rattle.shim_tests_values.proofs.beside.+go.Given as goal

-- a level is left with each fork
abbrev pub decreases-go : goal.decreases-go
decreases-go g l = 4 * l.levels + 2

abbrev pub decreases-go_on : goal.decreases-go_on
decreases-go_on g l = 4 * l.levels + 1

abbrev pub decreases-fork : goal.decreases-fork
decreases-fork g l = 4 * l.levels

abbrev pub decreases-go_all : goal.decreases-go_all
decreases-go_all g l = 4 * l.levels + 3

abbrev pub invariant-go-loop-at : goal.invariant-go-loop-at
invariant-go-loop-at g l = StaysChild g.A.Local.ops l.fn.one l.one × StaysChild g.B.Local.ops l.fn.other l.other

abbrev pub invariant-go_all-loop-at : goal.invariant-go_all-loop-at
invariant-go_all-loop-at g l = StayChildren g.A.Local.ops l.fn.ones.items l.ones.items × StayChildren g.B.Local.ops l.fn.others.items l.others.items
