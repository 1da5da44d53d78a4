-- Serial numbers of channels in runs of consecutive ones, the greatest first.
use Rattle.std.specs.Prelude.{ℕ, suc, ◌+◌, ◌-◌, eqb, nat_le, nat_lt, Bool, false, ◌&&◌, ◌||◌, List, [], ◌∷◌, ◌++◌, if◌then◌else◌, Option, Some, None}
use Rattle.shim_process.specs.declared.serial_run.SerialRun.{SerialRun}

-- the greatest number of a run
abbrev pub last_serial : SerialRun → ℕ
last_serial r = r.first + r.more

abbrev pub is_in_run : ℕ → SerialRun → Bool
is_in_run n r = nat_le r.first n && nat_le n (last_serial r)

-- the number is in one of the runs
abbrev pub is_in_runs : ℕ → List SerialRun → Bool
is_in_runs n [] = false
is_in_runs n (r ∷ rs) = is_in_run n r || is_in_runs n rs

-- the runs with the number n, which is greater than all of theirs
abbrev pub with_serial : ℕ → List SerialRun → List SerialRun
with_serial n [] = record { first = n; more = 0 } ∷ []
with_serial n (r ∷ rs) = if eqb n (suc (last_serial r)) then record { first = r.first; more = suc r.more } ∷ rs else record { first = n; more = 0 } ∷ r ∷ rs

-- the numbers of a run that are greater than n, which is itself in the run, as at most one run; `run_below` has the lesser ones
abbrev pub run_above : ℕ → SerialRun → List SerialRun
run_above n r = if nat_lt n (last_serial r) then record { first = suc n; more = last_serial r - suc n } ∷ [] else []

abbrev pub run_below : ℕ → SerialRun → List SerialRun
run_below n r = if nat_lt r.first n then record { first = r.first; more = n - suc r.first } ∷ [] else []

-- what is left of a run without the number, as at most two runs
abbrev pub run_without : ℕ → SerialRun → List SerialRun
run_without n r = if is_in_run n r then run_above n r ++ run_below n r else r ∷ []

-- the runs without the number
abbrev pub without_serial : ℕ → List SerialRun → List SerialRun
without_serial n [] = []
without_serial n (r ∷ rs) = run_without n r ++ without_serial n rs

-- the runs without the number, if there is one
abbrev pub without_some : Option ℕ → List SerialRun → List SerialRun
without_some None runs = runs
without_some (Some n) runs = without_serial n runs
