use Rattle.std.proofs.Common.{◌≡◌}
use Rattle.shim_semantics.specs.Walks.{head, walk_all}
use Rattle.shim_tree.proofs.Beside.{from}
use Rattle.shim_tree.proofs.seek.+found_first.Given as goal

abbrev pub decreases-found_first : goal.decreases-found_first
decreases-found_first g l = goal.size-found_first g l

abbrev pub invariant-loop-i : goal.invariant-loop-i
invariant-loop-i g l =
    head (walk_all g.L.Local.ops l.l (from 0 l.children.items l.statuses.items) l.i (from l.i l.children.items l.statuses.items))
    ≡ head (walk_all g.L.Local.ops l.l (from 0 l.children.items l.statuses.items) 0 (from 0 l.children.items l.statuses.items))
