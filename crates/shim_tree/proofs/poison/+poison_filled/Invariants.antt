use Rattle.std.proofs.Common.{◌≡◌, ◌≤◌, true, vec_len}
use Rattle.shim_semantics.specs.Nodes.{death}
use Rattle.shim_semantics.specs.Poison.{all_poisoned}
use Rattle.shim_tree.specs.NodeStatus.{nodes, together}
use Rattle.shim_tree.proofs.Fills.{noted_from}
use Rattle.shim_tree.proofs.Poisonings.{poisoned_from}
use Rattle.shim_tree.proofs.poison.+poison_filled.Given as goal

abbrev pub decreases-poison_filled : goal.decreases-poison_filled
decreases-poison_filled g l = goal.size-poison_filled g l

abbrev pub invariant-loop-i : goal.invariant-loop-i
invariant-loop-i g l =
    goal.unvisited-loop-i g l
    × (l.i-end ≤ vec_len l.statuses)
    × (noted_from l.i l.processes.items l.statuses.items ≡ true)
    × (poisoned_from g.L.Local.ops l.chan.channel (death l.label) l.i (together l.processes.items (nodes l.statuses.items)) ≡ all_poisoned g.L.Local.ops l.chan.channel (death l.label) (together l.initial.processes.items (nodes l.initial.statuses.items)))
