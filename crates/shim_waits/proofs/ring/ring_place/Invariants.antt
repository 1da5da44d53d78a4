use Rattle.std.proofs.Common.{◌≡◌, ◌-◌, [], length, drop}
use Rattle.shim_waits.specs.Rings.{numbers_since, backwards}
use Rattle.shim_waits.proofs.ring.ring_place.Given as goal

abbrev pub invariant-loop-behind : goal.invariant-loop-behind
invariant-loop-behind l = numbers_since l.again (backwards (length l.passed - l.behind) l.passed) (drop (length l.passed - l.behind) l.passed) ≡ numbers_since l.again (backwards (length l.passed) l.passed) []
