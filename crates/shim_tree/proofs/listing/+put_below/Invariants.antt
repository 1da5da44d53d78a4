use Rattle.std.proofs.Common.{◌≡◌, filter}
use Rattle.shim_semantics.specs.Walks.{all_waited}
use Rattle.shim_tree.specs.Inserted.{all_inserted}
use Rattle.shim_tree.specs.Searching.{passes, channels}
use Rattle.shim_tree.proofs.Beside.{from}
use Rattle.shim_tree.proofs.listing.+put_below.Given as goal

abbrev pub decreases-put_below : goal.decreases-put_below
decreases-put_below g l = goal.size-put_below g l

abbrev pub invariant-loop-i : goal.invariant-loop-i
invariant-loop-i g l =
    all_inserted (channels l.chans.items) (filter (passes g.L.Local.ops l.test) (all_waited g.L.Local.ops (from l.i l.children.items l.statuses.items)))
    ≡ all_inserted (channels l.fn.chans.items) (filter (passes g.L.Local.ops l.test) (all_waited g.L.Local.ops (from 0 l.children.items l.statuses.items)))
