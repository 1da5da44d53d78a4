use Rattle.std.proofs.Common.{◌≡◌}
use Rattle.shim_semantics.specs.Nodes.{all_done}
use Rattle.shim_tree.proofs.Beside.{from}
use Rattle.shim_tree.proofs.seek.are_done.Given as goal

abbrev pub invariant-loop-i : goal.invariant-loop-i
invariant-loop-i g l = all_done (from l.i l.children l.statuses) ≡ all_done (from 0 l.children l.statuses)
