use Rattle.std.proofs.Common.{◌<◌, ◌≤◌, ℕ, length, get_or}
use Rattle.shim_waits.proofs.ring.least_place.Given as goal

abbrev pub invariant-loop-i : goal.invariant-loop-i
invariant-loop-i l =
    (l.least ≤ l.i) × (0 < length l.ring → l.least < length l.ring)
    × ((j : ℕ) → j < l.least → get_or l.ring l.least 0 < get_or l.ring j 0)
    × ((j : ℕ) → j < l.i → get_or l.ring l.least 0 ≤ get_or l.ring j 0)
