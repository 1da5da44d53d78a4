-- Runs of serial numbers that are kept in order, with room for takes.
use Rattle.std.specs.Prelude.{◌≡◌, ◌<◌, ◌≤◌, ℕ, ◌+◌, true, List, [], ◌∷◌, Some, slice_get}
use Rattle.shim_process.specs.declared.serial_run.SerialRun.{SerialRun}
use Rattle.shim_process.specs.SerialRuns.{last_serial, is_in_run}

-- the greatest run first, and how many can be added or taken before memory is needed
pub record RunsView : Type 0 where
  pub runs : List SerialRun
  pub room : ℕ

-- each run ends below the one before it, and the first one below this number
abbrev pub AreBelow : ℕ → List SerialRun → Type 0
AreBelow bound [] = Unit {0}
AreBelow bound (r ∷ rs) = (last_serial r < bound) × AreBelow r.first rs

-- The capacity suffices for so many runs and for `room` more. A take may split a run, which makes one run more.
abbrev pub HasCapacity : ℕ → ℕ → ℕ → Type 0
HasCapacity many room capacity = many + room ≤ capacity

-- the run of this index is this one, and has the number
abbrev pub IsFound : ℕ → List SerialRun → ℕ → SerialRun → Type 0
IsFound n runs index run = (slice_get runs index ≡ Some run) × (is_in_run n run ≡ true)
