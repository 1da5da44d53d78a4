use Rattle.std.proofs.Common.{◌≡◌, ◌<◌, ◌-◌, ℕ, [], false, length, get_or}
use Rattle.shim_waits.specs.Rings.{was_passed, number_ring, backwards, AllBelow}
use Rattle.shim_waits.proofs.ring.follow.Given as goal

-- what comes from here on is what comes from the start, and each that was passed is marked
abbrev pub invariant-loop-turn : goal.invariant-loop-turn
invariant-loop-turn l =
    (number_ring (length l.next - l._turn) l.next (backwards (length l.passed.items) l.passed.items) l.at ≡ number_ring (length l.next) l.next [] 0)
    × ((j : ℕ) → j < length l.next → get_or l.seen.items j false ≡ was_passed j (backwards (length l.passed.items) l.passed.items))
    × (length l.seen.items ≡ length l.next)
    × AllBelow (length l.next) l.passed.items
    × (0 < length l.next → l.at < length l.next)
