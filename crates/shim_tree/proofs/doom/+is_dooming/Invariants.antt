use Rattle.std.proofs.Common.{◌≡◌}
use Rattle.shim_semantics.specs.Poison.{any_dooms}
use Rattle.shim_tree.proofs.Beside.{from}
use Rattle.shim_tree.proofs.doom.+is_dooming.Given as goal

abbrev pub decreases-is_dooming : goal.decreases-is_dooming
decreases-is_dooming g l = goal.size-is_dooming g l

abbrev pub invariant-loop-i : goal.invariant-loop-i
invariant-loop-i g l =
    any_dooms g.L.Local.ops l.label l.c.channel (from l.i l.children.items l.statuses.items) ≡ any_dooms g.L.Local.ops l.label l.c.channel (from 0 l.children.items l.statuses.items)
