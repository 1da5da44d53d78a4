use Rattle.std.proofs.Common.{◌≡◌, ◌↔◌, drop}
use Rattle.shim_units_equality.proofs.same.same_all.Given as goal

abbrev pub invariant-loop-element : goal.invariant-loop-element
invariant-loop-element g l = (drop l.element-index l.one ≡ l.left) ↔ (l.one ≡ l.other)
