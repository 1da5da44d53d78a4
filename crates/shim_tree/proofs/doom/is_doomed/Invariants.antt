use Rattle.std.proofs.Common.{◌≡◌}
use Rattle.shim_tree.proofs.Beside.{from}
use Rattle.shim_tree.proofs.Dooms.{doomed_from}
use Rattle.shim_tree.proofs.doom.is_doomed.Given as goal

abbrev pub invariant-loop-i : goal.invariant-loop-i
invariant-loop-i g l =
    doomed_from g.L.Local.ops l.label l.c.channel l.i l.at (from l.i l.children l.statuses) ≡ doomed_from g.L.Local.ops l.label l.c.channel 0 l.at (from 0 l.children l.statuses)
