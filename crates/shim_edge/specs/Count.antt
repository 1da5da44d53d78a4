-- A count in a u64, which saturates.
use Rattle.std.specs.Prelude.{ℕ, ◌+◌, ◌-◌, ◌^◌, ◌≤◌, min, Result, Ok, Err}

-- one more, up to the end of a u64
abbrev pub count_up : ℕ → ℕ
count_up count = min (count + 1) (2 ^ 64 - 1)

-- one more fault where the call failed
abbrev pub count_fault : {T E : Type 0} → ℕ → Result T E → ℕ
count_fault faults (Ok _) = faults
count_fault faults (Err _) = count_up faults

-- The count has risen, or it is at the end of a u64, where it cannot.
abbrev pub HasRisen : ℕ → ℕ → Type 0
HasRisen before now = count_up before ≤ now
