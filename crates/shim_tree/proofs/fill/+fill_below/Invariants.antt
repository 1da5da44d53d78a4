use Rattle.std.proofs.Common.{◌≡◌, true}
use Rattle.shim_tree.specs.NodeStatus.{nodes}
use Rattle.shim_tree.proofs.Fills.{filled_before}
use Rattle.shim_tree.proofs.fill.+fill_below.Given as goal

abbrev pub decreases-fill_below : goal.decreases-fill_below
decreases-fill_below g l = goal.size-fill_below g l

abbrev pub invariant-loop-i : goal.invariant-loop-i
invariant-loop-i g l =
    goal.unvisited-loop-i g l
    × (l.statuses.len ≡ l.i-end)
    × (nodes l.statuses.items ≡ nodes l.initial.statuses.items)
    × (filled_before l.i l.statuses.items ≡ true)
