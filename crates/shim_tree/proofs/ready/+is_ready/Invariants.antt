use Rattle.std.proofs.Common.{◌≡◌, ◌||◌}
use Rattle.shim_semantics.specs.Nodes.{any_sharer, all_ready}
use Rattle.shim_tree.proofs.Beside.{from}
use Rattle.shim_tree.proofs.ready.+is_ready.Given as goal

abbrev pub decreases-is_ready : goal.decreases-is_ready
decreases-is_ready g l = goal.size-is_ready g l

abbrev pub invariant-loop-i : goal.invariant-loop-i
invariant-loop-i g l =
    ((l.any || any_sharer g.L.Local.ops l.c.channel (from l.i l.children.items l.statuses.items)) ≡ any_sharer g.L.Local.ops l.c.channel (from 0 l.children.items l.statuses.items))
    × (all_ready g.L.Local.ops l.c.channel (from l.i l.children.items l.statuses.items) ≡ all_ready g.L.Local.ops l.c.channel (from 0 l.children.items l.statuses.items))
