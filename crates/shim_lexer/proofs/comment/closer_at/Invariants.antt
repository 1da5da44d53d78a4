use Rattle.std.proofs.Common.{ℕ, ◌<◌, ◌≤◌, ◌-◌, length}
use Rattle.shim_lexer.specs.Scanned.{IsCloserAt}
use Rattle.shim_lexer.proofs.comment.closer_at.Given as goal

abbrev pub invariant-bytes : goal.invariant-bytes
invariant-bytes l = (l.at ≤ length l.text) × ((k : ℕ) → k < l.at → IsCloserAt l.text k → ⊥)

abbrev pub decreases-bytes : goal.decreases-bytes
decreases-bytes l = length l.text - l.at
