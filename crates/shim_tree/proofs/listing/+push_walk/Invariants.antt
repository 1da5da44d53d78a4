use Rattle.std.proofs.Common.{◌≡◌, ◌++◌, map}
use Rattle.shim_run_log.specs.Events.{event_of}
use Rattle.shim_semantics.specs.Walks.{walk_all}
use Rattle.shim_tree.proofs.Beside.{from}
use Rattle.shim_tree.proofs.listing.+push_walk.Given as goal

abbrev pub decreases-push_walk : goal.decreases-push_walk
decreases-push_walk g l = goal.size-push_walk g l

abbrev pub invariant-loop-i : goal.invariant-loop-i
invariant-loop-i g l =
    map event_of l.events ++ walk_all g.L.Local.ops l.l (from 0 l.children.items l.statuses.items) l.i (from l.i l.children.items l.statuses.items)
    ≡ map event_of l.initial.events ++ walk_all g.L.Local.ops l.l (from 0 l.children.items l.statuses.items) 0 (from 0 l.children.items l.statuses.items)
