use Rattle.std.proofs.Common.{◌≡◌}
use Rattle.std.specs.Option.{option_copied}
use Rattle.shim_semantics.specs.Walks.{all_waited}
use Rattle.shim_tree.specs.Finding.{unnamed_channel, least}
use Rattle.shim_tree.specs.Searching.{passes}
use Rattle.shim_tree.proofs.Beside.{from}
use Rattle.shim_tree.proofs.seek.+least_below.Given as goal

abbrev pub decreases-least_below : goal.decreases-least_below
decreases-least_below g l = goal.size-least_below g l

abbrev pub invariant-loop-i : goal.invariant-loop-i
invariant-loop-i g l =
    least (passes g.L.Local.ops l.test) (unnamed_channel (option_copied l.found)) (all_waited g.L.Local.ops (from l.i l.children.items l.statuses.items))
    ≡ least (passes g.L.Local.ops l.test) (unnamed_channel (option_copied l.fn.best)) (all_waited g.L.Local.ops (from 0 l.children.items l.statuses.items))
