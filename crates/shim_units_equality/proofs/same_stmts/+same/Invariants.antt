use Rattle.std.proofs.Common.{◌≡◌, ◌↔◌, drop}
use Rattle.shim_units_equality.proofs.same_stmts.+same.Given as goal

abbrev pub invariant-same_stmts-loop-stmt : goal.invariant-same_stmts-loop-stmt
invariant-same_stmts-loop-stmt l = (drop l.stmt-index l.one ≡ l.left) ↔ (l.one ≡ l.other)
