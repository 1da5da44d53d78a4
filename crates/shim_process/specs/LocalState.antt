-- The state of one process of an accepted program.
use Rattle.std.specs.Prelude.{ℕ, ◌+◌, nat_le, Bool, ◌||◌, List, [], length, Option, Some, None, slice_get}
use Rattle.shim_base.specs.declared.types.Ty.{Ty}
use Rattle.shim_base.specs.declared.types.Ty.TheVariants as ty
use Rattle.shim_base.specs.declared.operators.Trap.{Trap}
use Rattle.shim_base.specs.Paths.{Path, NamedChannel}
use Rattle.shim_syntax.specs.declared.tree.Sort.{Sort}
use Rattle.shim_syntax.specs.declared.tree.Sort.TheVariants as sort
use Rattle.shim_units.specs.declared.form.Form.{Form}
use Rattle.shim_units.specs.declared.unit.Unit.{Unit as UnitOf}
use Rattle.shim_process.specs.Values.{Env}
use Rattle.shim_process.specs.Locations.{Location, Locations, at_number, location_value}
use Rattle.shim_process.specs.Todo.{Item}
use Rattle.shim_process.specs.declared.handler_variable.HandlerVariable.{HandlerVariable}
use Rattle.shim_process.specs.declared.serial_run.SerialRun.{SerialRun}

-- An exception place in force: the number of its exception in the unit, the name and the line of its `try`, and the variable of its handler, if it has one. Its `todo` is what there was to do in the unit, the `try` first.
pub record ExceptionPlace : Type 0 where
  pub exception : ℕ
  pub name : ℕ
  pub line : ℕ
  pub variable : Option HandlerVariable
  pub todo : List Item

-- the frame of a unit that the process is in
pub record Frame : Type 0 where
  pub unit : ℕ
  -- what is still to do in it; a caller still stands at its call
  pub todo : List Item
  -- of the statement at which it stands the first part is done: of `next x = e` the assignment, of `x = next y` the rendezvous
  pub halfway : Bool
  -- the numbers of its slots' locations
  pub slots : List ℕ
  -- the labels of the exceptions that the unit was given, which are its first
  pub labels : List ℕ
  -- how many locations and how many exception places the process had when the unit was entered; the locations after are its own
  pub floor : ℕ
  pub outer : ℕ
  -- its exception places in force, the outermost first
  pub places : List ExceptionPlace

-- why the process stands trapped, and the line of the statement
pub record TrappedAt : Type 0 where
  pub kind : Trap
  pub line : ℕ

-- the state of a process, with its program and its input
pub record LocalState : Type 0 where
  pub path : Path
  -- how many exception places are in force around the process, and so the label of its own first one
  pub base : ℕ
  -- how many channels it made, and how many forks it did
  pub made : ℕ
  pub forks : ℕ
  -- the serial numbers of the channels that a `try` made and no handler has taken
  pub untaken : List SerialRun
  -- the channels that the arguments of its first unit gave it, in the order of the parameters
  pub given : List NamedChannel
  -- the innermost frame, and those that wait for it, each called by the next; of these there are as many as calls in force
  pub frame : Frame
  pub callers : List Frame
  pub locations : Locations
  -- how many bytes of the input were read, where it has the input
  pub input_at : Option ℕ
  -- it has the output
  pub holds_output : Bool
  pub trap : Option TrappedAt
  -- the program, and the bytes of the input
  pub program : Form
  pub input : List ℕ

-- The number, or 0 if there is none. In an accepted program each number that is looked up is in its list.
abbrev pub number_or_any : Option ℕ → ℕ
number_or_any None = 0
number_or_any (Some n) = n

-- an empty unit, for a number that no unit has
abbrev pub no_unit : UnitOf
no_unit = record { title = []; function = 0; params = []; slots = []; slot_names = []; throws = 0; tries = []; body = [] }

-- the unit, or the empty one where there is none
abbrev pub unit_or : Option UnitOf → UnitOf
unit_or None = no_unit
unit_or (Some u) = u

-- the unit of a number in the program, or the empty one where no unit has the number
unfoldable pub unit_at : Form → ℕ → UnitOf
unit_at program n = unit_or (slice_get program.units n)

-- the entry of a list at an index, or 0 where the list is too short
unfoldable pub number_of : List ℕ → ℕ → ℕ
number_of numbers n = number_or_any (slice_get numbers n)

-- the location of a slot
abbrev pub location_of : Locations → List ℕ → ℕ → Option Location
location_of locations slots x = at_number locations (number_of slots x)

-- what the variables of a frame hold
abbrev pub env_of : Locations → List ℕ → Env
env_of locations slots x = location_value (location_of locations slots x)

-- the type of a variable of this sort; `int32` is given for a stream, of which no type is asked for
abbrev pub type_of : Sort → Ty
type_of (sort.Value t) = t
type_of sort.Input = ty.Int32
type_of sort.Output = ty.Int32

-- how many exception places are in force, with those around the process
abbrev pub handlers : LocalState → ℕ
handlers l = l.base + (l.frame.outer + length l.frame.places)

-- the process made at least 4,000,000,000 channels or did at least as many forks; it then makes no more channels and does no more forks
abbrev pub is_full : LocalState → Bool
is_full l = nat_le 4000000000 l.made || nat_le 4000000000 l.forks

-- at least 200 calls are in force
abbrev pub is_deep : LocalState → Bool
is_deep l = nat_le 200 (length l.callers)

-- it stands trapped; nothing else changes
abbrev pub trapped : Trap → ℕ → LocalState → LocalState
trapped kind line l = record l { trap = Some (record { kind = kind; line = line }) }
