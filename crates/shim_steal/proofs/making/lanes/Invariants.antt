use Rattle.std.proofs.Common.{◌≡◌, ◌≤◌, length}
use Rattle.shim_steal.specs.Making.{AreNewLanes}
use Rattle.shim_steal.proofs.making.lanes.Given as goal

abbrev pub invariant-loop : goal.invariant-loop
invariant-loop g l = (length l.all.items ≡ l.counter) × AreNewLanes (length l.all.items) l.all.items × (l.counter ≤ l.fn.count)
