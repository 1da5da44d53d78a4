-- What the code's usages say of a text.
use Rattle.std.specs.Prelude.{◌≡◌, ℕ, ◌<◌, List, [], ◌∷◌, Option, Some, None, Bool, true, false, ◌&&◌, ◌||◌, length, slice_get}
use Rattle.shim_syntax.specs.declared.tree.Sort.{Sort}
use Rattle.shim_units.specs.declared.found.How.{How}
use Rattle.shim_units.specs.declared.found.Use.{Use}
use Rattle.shim_units.specs.declared.found.Capture.{Capture}
use Rattle.shim_units.specs.declared.found.Capture.TheVariants.{Nothing}
use Rattle.shim_units.specs.declared.captures.Usage.{Usage}
use Rattle.shim_units.specs.Captures.{Captures, captures, declares_variable, writes, names, is_declared, is_written, is_reference, taken_as}

-- the usage of a variable in a text with these uses
abbrev pub usage_of : List Use → ℕ → Usage
usage_of us x = record { declared = declares_variable us x; written = writes us x; named = names us x }

-- the usage with one more use of the variable, in that way
abbrev pub with_use : Usage → How → Usage
with_use m how = record { declared = m.declared || is_declared how; written = m.written || is_written how; named = true }

-- the list has n usages: for each slot below n the usage that these uses make of its variable
pub record ShowUses (usages : List Usage) (n : ℕ) (us : List Use) : Type 0 where
  pub long : length usages ≡ n
  pub each : (x : ℕ) → x < n → slice_get usages x ≡ Some (usage_of us x)

abbrev pub or_nothing : Option Capture → Capture
or_nothing None = Nothing
or_nothing (Some t) = t

-- the captures that a list has, by slots
abbrev pub captures_of : List Capture → Captures
captures_of ts x = or_nothing (slice_get ts x)

-- how a variable of that sort and usage is taken, and not at all where either is missing
abbrev pub taken_with : Option Sort → Option Usage → Capture
taken_with None m = Nothing
taken_with (Some sort) None = Nothing
taken_with (Some sort) (Some m) = taken_as sort m.declared m.written m.named

-- the list has n captures: for each slot below n, how a branch with these uses takes its variable
pub record TakesBelow (ts : List Capture) (n : ℕ) (sorts : List Sort) (us : List Use) : Type 0 where
  pub long : length ts ≡ n
  pub each : (x : ℕ) → x < n → slice_get ts x ≡ Some (captures sorts us x)

-- two of these branches take the variable by reference, or one does and `taken` is true
abbrev pub shared : ℕ → Bool → List Captures → Bool
shared x taken [] = false
shared x taken (t ∷ ts) = (is_reference (t x) && taken) || shared x (is_reference (t x) || taken) ts
