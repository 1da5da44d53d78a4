use Rattle.std.proofs.Common.{◌≡◌}
use Rattle.shim_semantics.specs.Nodes.{all_received}
use Rattle.shim_tree.specs.NodeStatus.{nodes, together}
use Rattle.shim_tree.specs.Meeting.{received_from}
use Rattle.shim_tree.proofs.receive.+receive_at.Given as goal

abbrev pub decreases-receive_at : goal.decreases-receive_at
decreases-receive_at g l = goal.size-receive_at g l

abbrev pub invariant-loop-i : goal.invariant-loop-i
invariant-loop-i g l =
    goal.unvisited-loop-i g l
    × (l.processes.len ≡ l.i-end)
    × (received_from g.L.Local.ops l.chan.channel l.value l.i (together l.processes.items (nodes l.statuses.items)) ≡ all_received g.L.Local.ops l.chan.channel l.value (together l.initial.processes.items (nodes l.initial.statuses.items)))
