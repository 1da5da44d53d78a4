use Rattle.std.proofs.Common.{◌≡◌, ◌-◌, true, List, vec_len}
use Rattle.shim_tree.specs.NodeStatus.{together, nodes}
use Rattle.shim_tree.specs.Filled.{are_filled}
use Rattle.shim_tree.proofs.fill.fill_to.Given as goal

abbrev pub invariant-loop-statuses : goal.invariant-loop-statuses
invariant-loop-statuses g l =
    ((ls : List g.row.L.Denot) → together ls (nodes l.statuses.items) ≡ together ls (nodes l.initial.statuses.items))
    × (are_filled l.initial.statuses.items ≡ true → are_filled l.statuses.items ≡ true)

abbrev pub decreases-loop-statuses : goal.decreases-loop-statuses
decreases-loop-statuses g l = l.count - vec_len l.statuses
