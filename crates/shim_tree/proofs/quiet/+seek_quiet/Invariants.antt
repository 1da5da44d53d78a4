use Rattle.std.proofs.Common.{◌≡◌}
use Rattle.shim_semantics.specs.Quiets.{all_quiets}
use Rattle.shim_tree.specs.Sought.{seek}
use Rattle.shim_tree.proofs.Beside.{from}
use Rattle.shim_tree.proofs.quiet.+seek_quiet.Given as goal

abbrev pub decreases-seek_quiet : goal.decreases-seek_quiet
decreases-seek_quiet g l = goal.size-seek_quiet g l

-- what is sought from here on is what is sought in all
abbrev pub invariant-loop-i : goal.invariant-loop-i
invariant-loop-i g l =
    seek (all_quiets g.L.Local.ops (from l.i l.children.items l.statuses.items)) l.more ≡ seek (all_quiets g.L.Local.ops (from 0 l.children.items l.statuses.items)) l.fn.left
