-- The summary of the run of a source that was made: it says how much came of the run, and not what.
use Rattle.std.specs.Prelude.{ℕ, ℤ, pos, ◌+ℤ◌, Bool, true, false, List, [], ◌∷◌, ◌++◌, length, filter, flat_map, codes, decimal}
use Rattle.std.specs.Int.{int_rem_euclid}
use Rattle.std.specs.Int.RustNames.{unsigned_abs}
use Rattle.shim_local.specs.declared.ended.Ended.{Ended}
use Rattle.shim_local.specs.declared.ended.History.{History}
use Rattle.shim_local.specs.declared.ended.Log.{Log}
use Rattle.shim_local.specs.declared.ended.LogWhat.{LogWhat}
use Rattle.shim_local.specs.declared.ended.LogWhat.TheVariants.{Caught, Trap as LoggedTrap}
use Rattle.shim_local.specs.declared.ended.Outcome.{Outcome}
use Rattle.shim_local.specs.declared.ended.Outcome.TheVariants.{Spent}
use Rattle.shim_report.specs.Report.{Names, end_line}

-- the values that the rendezvous on all channels gave, channel by channel
abbrev pub all_values : List History → List ℤ
all_values hs = flat_map (λ (h : History). h.values) hs

-- numbers added up
abbrev pub sum_of_values : List ℤ → ℤ
sum_of_values [] = pos 0
sum_of_values (v ∷ vs) = v +ℤ sum_of_values vs

-- the number from 0 to 999,999 that differs from this one by a multiple of a million
abbrev pub residue : ℤ → ℕ
residue v = unsigned_abs (int_rem_euclid v (pos 1000000))

-- whether what was logged is a catch and no trap
abbrev pub is_caught : LogWhat → Bool
is_caught (Caught name line) = true
is_caught (LoggedTrap trap line) = false

-- how many exceptions were caught
abbrev pub catch_count : List Log → ℕ
catch_count logs = length (filter (λ (l : Log). is_caught l.what) logs)

-- `gen KIND N`
unfoldable pub made_line : List ℕ → ℕ → List ℕ
made_line kind size = codes "gen " ++ (kind ++ (codes " " ++ (decimal size ++ codes "\n")))

-- a word, and how many there are of what it names: bytes that were put, channels that had a rendezvous, exceptions that were caught
unfoldable pub count_line : List ℕ → ℕ → List ℕ
count_line word n = word ++ (codes " " ++ (decimal n ++ codes "\n"))

-- `values V M`: how many values the channels' rendezvous gave, and the sum of the values modulo 1,000,000
unfoldable pub values_line : ℕ → ℕ → List ℕ
values_line n sum = codes "values " ++ (decimal n ++ (codes " " ++ (decimal sum ++ codes "\n")))

-- the four lines of counts: output, channels, values and catches
abbrev pub counts_text : Ended → List ℕ
counts_text e = count_line (codes "output") (length e.output) ++ (count_line (codes "channels") (length e.histories)
    ++ (values_line (length (all_values e.histories)) (residue (sum_of_values (all_values e.histories))) ++ count_line (codes "catches") (catch_count e.logs)))

-- the counts of a run that came to its end; one that was stopped has none
abbrev pub counts_part : Outcome → Ended → List ℕ
counts_part Spent e = []
counts_part _ e = counts_text e

-- the summary of the run of the source of this kind and size
unfoldable pub summary : List ℕ → ℕ → Names → Ended → List ℕ
summary kind size names e = made_line kind size ++ (counts_part e.outcome e ++ end_line names e.outcome e.steps)
