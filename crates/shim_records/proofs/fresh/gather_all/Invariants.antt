use Rattle.std.proofs.Common.{◌≡◌, ◌++◌, drop}
use Rattle.shim_records.specs.Fresh.{shared_given}
use Rattle.shim_records.proofs.fresh.gather_all.Given as goal

abbrev pub invariant-loop-i : goal.invariant-loop-i
invariant-loop-i g l = l.chans.items ++ shared_given g.L.Local.ops l.parent (drop l.i l.children) ≡ shared_given g.L.Local.ops l.parent l.children
