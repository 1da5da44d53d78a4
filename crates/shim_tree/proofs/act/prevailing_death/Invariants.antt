use Rattle.std.proofs.Common.{◌≡◌, ◌≤◌, length}
use Rattle.shim_semantics.specs.Nodes.{prevailing_death}
use Rattle.shim_tree.proofs.Beside.{from}
use Rattle.shim_tree.proofs.act.prevailing_death.Given as goal

abbrev pub invariant-loop-left : goal.invariant-loop-left
invariant-loop-left g l = (l.left ≤ length l.children) × (l.death ≡ prevailing_death (from l.left l.children l.statuses))

abbrev pub decreases-loop-left : goal.decreases-loop-left
decreases-loop-left g l = l.left
