use Rattle.std.proofs.Common.{◌≡◌, ◌≤◌, length}
use Rattle.shim_steal.specs.Making.{AreLinked}
use Rattle.shim_steal.proofs.making.link_all.Given as goal

abbrev pub invariant-loop-home : goal.invariant-loop-home
invariant-loop-home g l = AreLinked (length l.fn.all.items) l.home l.all.items l.deque l.others.items × (l.home-end ≡ length l.fn.all.items) × (l.home ≤ l.home-end)
