-- The pairs of a path whose copies share them.
use Rattle.std.specs.Prelude.{ℕ, Option, Some, None, List, []}

-- the kept pairs of a path, and the empty path where none are kept
abbrev pub pairs_of : Option (List (ℕ × ℕ)) → List (ℕ × ℕ)
pairs_of None = []
pairs_of (Some pairs) = pairs
