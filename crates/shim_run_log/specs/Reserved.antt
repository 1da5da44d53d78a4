-- Counts in which each process has its count before its first step.
use Rattle.std.specs.Prelude.{◌≡◌, ℕ, ◌+◌, true, cond, filter}
use Rattle.std.specs.FinMap as finite
use Rattle.shim_base.specs.Paths.{Path, path_order}
use Rattle.shim_semantics.specs.Trees.{count_of}
use Rattle.shim_run_log.specs.Maps.{has_stepped}

-- of a map in which a process has its count before its first step: the counts of those that did one
abbrev pub stepped : finite.FinMap path_order ℕ → finite.FinMap path_order ℕ
stepped m = finite.from_entries (filter has_stepped (finite.entries m))

-- the process of the path has its count
abbrev pub HasCount : finite.FinMap path_order ℕ → Path → Type 0
HasCount m p = finite.contains_key m p ≡ true

-- what had a count still has one
abbrev pub KeepsCounts : finite.FinMap path_order ℕ → finite.FinMap path_order ℕ → Type 0
KeepsCounts m n = (p : Path) → HasCount m p → HasCount n p

-- the map with a count for the process of this path: 0 if it had none, else the count that it had
abbrev pub with_count : finite.FinMap path_order ℕ → Path → finite.FinMap path_order ℕ
with_count m p = cond (finite.contains_key m p) m (finite.insert m p 0)

-- the process of the path did so many steps more
abbrev pub more_steps : finite.FinMap path_order ℕ → Path → ℕ → finite.FinMap path_order ℕ
more_steps m p n = finite.insert m p (count_of m p + n)
