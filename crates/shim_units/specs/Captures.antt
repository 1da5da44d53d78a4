-- How a branch takes the variables from around it.
use Rattle.std.specs.Prelude.{ℕ, List, [], ◌∷◌, Option, Some, None, Bool, true, false, ◌&&◌, ◌||◌, nat_eq, slice_get}
use Rattle.shim_syntax.specs.declared.tree.Sort.{Sort}
use Rattle.shim_units.specs.declared.found.How.{How}
use Rattle.shim_units.specs.declared.found.How.TheVariants.{Declared, Written, Named}
use Rattle.shim_units.specs.declared.found.Use.{Use}
use Rattle.shim_units.specs.declared.found.Capture.{Capture}
use Rattle.shim_units.specs.declared.found.Capture.TheVariants.{Nothing, Copy, Reference}
use Rattle.shim_units.specs.Calls.{is_stream}

-- the slots of a function's variables, each with the way in which it is taken
abbrev pub Captures : Type 0
Captures = ℕ → Capture

abbrev pub is_declared : How → Bool
is_declared Declared = true
is_declared Written = false
is_declared Named = false

abbrev pub is_written : How → Bool
is_written Declared = false
is_written Written = true
is_written Named = false

-- the test p is true of one of these uses
abbrev pub some : (Use → Bool) → List Use → Bool
some p [] = false
some p (u ∷ us) = p u || some p us

-- the text declares the variable
abbrev pub declares_variable : List Use → ℕ → Bool
declares_variable us x = some (λ (u : Use). nat_eq u.slot x && is_declared u.how) us

-- the text assigns to the variable, or passes it by reference
abbrev pub writes : List Use → ℕ → Bool
writes us x = some (λ (u : Use). nat_eq u.slot x && is_written u.how) us

-- the text names the variable in any way
abbrev pub names : List Use → ℕ → Bool
names us x = some (λ (u : Use). nat_eq u.slot x) us

abbrev copied : Bool → Capture
copied true = Copy
copied false = Nothing

-- by reference where the truth value is `true`, and else as the other capture
abbrev pub referred : Bool → Capture → Capture
referred true other = Reference
referred false other = other

-- no capture where the text declares the variable itself, and else the given one
abbrev pub outer : Bool → Capture → Capture
outer true capture = Nothing
outer false capture = capture

-- How a text takes a variable of that sort. A variable that the text declares isn't taken. One that it writes, or a stream that it names, is taken by reference, and any other that it names as a copy.
abbrev pub taken_as : Sort → Bool → Bool → Bool → Capture
taken_as sort declared written named = outer declared (referred (written || (is_stream sort && named)) (copied named))

-- how a variable of that sort is taken, and not at all where there is no sort
abbrev pub taken_of : Option Sort → Bool → Bool → Bool → Capture
taken_of None declared written named = Nothing
taken_of (Some sort) declared written named = taken_as sort declared written named

-- how a branch with these uses takes each variable of a function whose slots have these sorts
abbrev pub captures : List Sort → List Use → Captures
captures sorts us x = taken_of (slice_get sorts x) (declares_variable us x) (writes us x) (names us x)

abbrev pub is_reference : Capture → Bool
is_reference Nothing = false
is_reference Copy = false
is_reference Reference = true

abbrev pub is_taken : Capture → Bool
is_taken Nothing = false
is_taken Copy = true
is_taken Reference = true
