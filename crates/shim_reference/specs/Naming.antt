-- An exception that nobody caught has the number of its name; a tree knows its label alone.
use Rattle.std.specs.Prelude.{ℕ, zero, suc, List, slice_get, unwrap_or}
use Rattle.shim_local.specs.declared.Ended.{Ended}
use Rattle.shim_local.specs.declared.Outcome.{Outcome}
use Rattle.shim_local.specs.declared.Outcome.TheVariants.{Done, Uncaught, Trapped, Blocked, Spent}

-- Of the names that `main` throws the first has label 1, the next one 2, and so on. A label stays where there is no name.
abbrev pub label_name : List ℕ → ℕ → ℕ
label_name throws zero = zero
label_name throws (suc at) = unwrap_or (slice_get throws at) (suc at)

-- the outcome, with the number of its name in place of an uncaught label
abbrev pub named_outcome : List ℕ → Outcome → Outcome
named_outcome throws Done = Done
named_outcome throws (Uncaught label) = Uncaught (label_name throws label)
named_outcome throws Trapped = Trapped
named_outcome throws Blocked = Blocked
named_outcome throws Spent = Spent

-- what is read off a run, with the name in the label's place
abbrev pub named : List ℕ → Ended → Ended
named throws e = record e { outcome = named_outcome throws e.outcome }
