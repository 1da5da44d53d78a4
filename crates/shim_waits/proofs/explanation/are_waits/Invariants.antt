use Rattle.std.proofs.Common.{◌↔◌, drop}
use Rattle.shim_local.specs.Laws.{AllOf}
use Rattle.shim_waits.specs.Waits.{IsWait}
use Rattle.shim_waits.proofs.explanation.are_waits.Given as goal

-- all that are left are waits exactly where all are
abbrev pub invariant-loop-i : goal.invariant-loop-i
invariant-loop-i g l = AllOf (IsWait g.L.Local.ops l.tree.root) (drop l.i l.waits) ↔ AllOf (IsWait g.L.Local.ops l.tree.root) l.waits
