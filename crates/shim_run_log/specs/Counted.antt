-- How many steps of its own each process did, read off entries in any order.
use Rattle.std.specs.Prelude.{◌≡◌, ℕ, ◌+◌, List, [], ◌∷◌, ◌++◌, slice_get, slice_set, Some}
use Rattle.std.specs.FinMap as finite
use Rattle.shim_base.specs.Paths.{Path, path_order}
use Rattle.shim_semantics.specs.Advancing.{steps_taken}

-- how often a process did a step: its path, and the count
pub record StepCount : Type 0 where
  pub path : Path
  pub count : ℕ

-- the counts of some processes, in which each process has a count that did a step: several entries of one process are added up
abbrev pub counted : List StepCount → finite.FinMap path_order ℕ
counted [] = finite.empty
counted (e ∷ es) = steps_taken (counted es) e.path e.count

-- what holds of `counted` if entries change, change places, or have no steps
pub record StepCountsFollow : Type 0 where
  -- a process that an entry names does so many steps more
  pub more : (es : List StepCount) (i : ℕ) (p : Path) (c n : ℕ) → slice_get es i ≡ Some (record { path = p; count = c }) → counted (slice_set es i (record { path = p; count = c + n })) ≡ steps_taken (counted es) p n
  -- which of two parts of the entries comes first is free
  pub swapped : (es fs : List StepCount) → counted (es ++ fs) ≡ counted (fs ++ es)
  -- an entry without steps counts nothing
  pub none : (es fs : List StepCount) (p : Path) → counted (es ++ record { path = p; count = 0 } ∷ fs) ≡ counted (es ++ fs)
