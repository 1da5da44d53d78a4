use Rattle.std.proofs.Common.{◌≡◌, drop}
use Rattle.shim_semantics.specs.Nodes.{source_among}
use Rattle.shim_tree.specs.NodeStatus.{nodes, together}
use Rattle.shim_tree.specs.Meeting.{valued}
use Rattle.shim_tree.proofs.receive.+value_at.Given as goal

abbrev pub decreases-value_at : goal.decreases-value_at
decreases-value_at g l = goal.size-value_at g l

abbrev pub invariant-loop-i : goal.invariant-loop-i
invariant-loop-i g l =
    valued g.L.Local.ops l.chan.channel (source_among g.L.Local.ops l.chan.channel (together (drop l.i l.processes.items) (nodes (drop l.i l.statuses.items)))) ≡ valued g.L.Local.ops l.chan.channel (source_among g.L.Local.ops l.chan.channel (together l.processes.items (nodes l.statuses.items)))
