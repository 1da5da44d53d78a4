-- Counts of numbers that go out of use.
use Rattle.std.specs.Prelude.{ℕ, ◌+◌, ◌&&◌, not, ltb, Option, None, cond}
use Rattle.shim_base.specs.Paths.{Path}

-- the paths of so many numbers from one on, and of no others
abbrev pub only_block : ℕ → ℕ → (ℕ → Option Path) → ℕ → Option Path
only_block first n paths i = cond (not (ltb i first) && ltb i (first + n)) (paths i) None
