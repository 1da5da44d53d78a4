use Rattle.std.proofs.Common.{◌≡◌, drop}
use Rattle.shim_semantics.specs.Nodes.{first_name_among}
use Rattle.shim_tree.specs.NodeStatus.{nodes, together}
use Rattle.shim_tree.proofs.receive.+name_at.Given as goal

abbrev pub decreases-name_at : goal.decreases-name_at
decreases-name_at g l = goal.size-name_at g l

abbrev pub invariant-loop-i : goal.invariant-loop-i
invariant-loop-i g l =
    first_name_among g.L.Local.ops l.chan.channel (together (drop l.i l.processes.items) (nodes (drop l.i l.statuses.items))) ≡ first_name_among g.L.Local.ops l.chan.channel (together l.processes.items (nodes l.statuses.items))
