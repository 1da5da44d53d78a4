-- What a statement sees of the process that stands at it: the variables of its unit, the exceptions in force, and which limits are reached.
use Rattle.std.specs.Prelude.{ℕ, ◌+◌, nat_eq, Bool, List, [], ◌∷◌, map, slice_get, if◌then◌else◌}
use Rattle.shim_units.specs.declared.unit.Unit.{Unit as UnitOf}
use Rattle.shim_process.specs.Locations.{Locations}
use Rattle.shim_process.specs.LocalState.{LocalState, ExceptionPlace, unit_or, number_of, is_full, is_deep}

-- the part of a process's state on which the action and the stop of its next statement depend
pub record StatementView : Type 0 where
  pub locations : Locations
  -- the numbers of its unit's slots' locations
  pub slots : List ℕ
  -- the labels of the exceptions that its unit was given
  pub labels : List ℕ
  -- the exceptions of its unit's places in force, the outermost first, and the label of the first one
  pub exceptions : List ℕ
  pub first : ℕ
  -- the program's units, and the number of its own
  pub units : List UnitOf
  pub unit : ℕ
  -- its first part is done
  pub halfway : Bool
  -- the process can make no more channels and do no more forks
  pub full : Bool
  -- no more calls can be in force
  pub deep : Bool
  pub holds_output : Bool

-- the exceptions of these places
abbrev pub exceptions_of : List ExceptionPlace → List ℕ
exceptions_of places = map (λ p. p.exception) places

-- what the next statement of a process sees
abbrev pub statement_view : LocalState → StatementView
statement_view l = record {
  locations = l.locations;
  slots = l.frame.slots;
  labels = l.frame.labels;
  exceptions = exceptions_of l.frame.places;
  first = l.base + l.frame.outer;
  units = l.program.units;
  unit = l.frame.unit;
  halfway = l.frame.halfway;
  full = is_full l;
  deep = is_deep l;
  holds_output = l.holds_output;
}

-- the unit of this number
abbrev pub unit_in : StatementView → ℕ → UnitOf
unit_in s n = unit_or (slice_get s.units n)

-- The label of exception x. The places in force are of these exceptions, and the outermost has the label `first`. The innermost place of x gives the label; without such a place it is `given`.
abbrev pub label_among : ℕ → ℕ → List ℕ → ℕ → ℕ
label_among x first [] given = given
label_among x first (e ∷ es) given = label_among x (first + 1) es (if nat_eq e x then first else given)

-- the label of an exception of its unit
abbrev pub label_of : StatementView → ℕ → ℕ
label_of s x = label_among x s.first s.exceptions (number_of s.labels x)

-- the labels of the exceptions that a call or a branch passes on
abbrev pub passed_labels : StatementView → List ℕ → List ℕ
passed_labels s [] = []
passed_labels s (x ∷ xs) = label_of s x ∷ passed_labels s xs
