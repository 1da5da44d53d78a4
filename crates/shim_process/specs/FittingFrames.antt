-- How the frames of a process stand over its locations, in a program whose units use slots of their own.
use Rattle.std.specs.Prelude.{◌≡◌, ◌≤◌, ℕ, true, List, [], ◌∷◌, length, Option, Some, None}
use Rattle.shim_base.specs.Paths.{Path}
use Rattle.shim_units.specs.declared.form.Form.{Form}
use Rattle.shim_units.specs.declared.unit.Unit.{Unit as UnitOf}
use Rattle.shim_process.specs.Locations.{Locations}
use Rattle.shim_process.specs.LocalState.{LocalState, Frame, ExceptionPlace, unit_at, number_of}
use Rattle.shim_process.specs.declared.handler_variable.HandlerVariable.{HandlerVariable}
use Rattle.shim_process.specs.Todo.{Item, Do, Leave}
use Rattle.shim_process.specs.OwnSlots.{is_own_slot, fits, UsesOwnSlots}

-- each statement that is still to do fits the unit: it declares own slots of the unit alone, and its calls and branches have an argument for each parameter
abbrev pub ItemsFit : Form → UnitOf → List Item → Type 0
ItemsFit program u [] = Unit {0}
ItemsFit program u (Leave ∷ k) = ItemsFit program u k
ItemsFit program u (Do n s ∷ k) = (fits program u s ≡ true) × ItemsFit program u k

-- the slot of a handler's variable is one of the unit's own
abbrev pub VariableFits : UnitOf → Option HandlerVariable → Type 0
VariableFits u None = Unit {0}
VariableFits u (Some y) = is_own_slot u y.slot ≡ true

-- at each exception place in force, what there was to do fits the unit, and so does the variable of the handler
abbrev pub PlacesFit : Form → UnitOf → List ExceptionPlace → Type 0
PlacesFit program u [] = Unit {0}
PlacesFit program u (p ∷ places) = ItemsFit program u p.todo × VariableFits u p.variable × PlacesFit program u places

-- The location of each own slot of the frame's unit has a number of at least the frame's floor and of at least `kept`.
abbrev pub SlotsFit : Form → ℕ → Frame → Type 0
SlotsFit program kept f = (x : ℕ) → is_own_slot (unit_at program f.unit) x ≡ true → (f.floor ≤ number_of f.slots x) × (kept ≤ number_of f.slots x)

-- What is left to do in the frame, and its exception places, fit its unit. The locations of its own slots have numbers that are neither below its floor nor below `kept`.
pub record FrameFits (program : Form) (kept : ℕ) (f : Frame) : Type 0 where
  pub todo : ItemsFit program (unit_at program f.unit) f.todo
  pub places : PlacesFit program (unit_at program f.unit) f.places
  pub slots : SlotsFit program kept f

-- Each frame fits. The floor of a frame that has a caller is at least `kept`, and at least the caller's floor.
abbrev pub FramesFit : Form → ℕ → Frame → List Frame → Type 0
FramesFit program kept f [] = FrameFits program kept f
FramesFit program kept f (caller ∷ callers) = FrameFits program kept f × (kept ≤ f.floor) × (caller.floor ≤ f.floor) × FramesFit program kept caller callers

-- the unit that the process entered first
abbrev first_unit : Frame → List Frame → ℕ
first_unit f [] = f.unit
first_unit f (caller ∷ callers) = first_unit caller callers

-- n for the path of a child, and 0 for the path of the root, which gives no location back
abbrev pub of_child : Path → ℕ → ℕ
of_child [] n = 0
of_child (x ∷ path) n = n

-- How many of its first locations a process gives back at the join: a child as many as the unit that it entered first has parameters, the root none.
abbrev pub parameters : Path → Form → Frame → List Frame → ℕ
parameters path program f callers = of_child path (length (unit_at program (first_unit f callers)).params)

-- how many parameters the first unit of a child has, and 0 for the root
abbrev pub parameters_of : LocalState → ℕ
parameters_of l = parameters l.path l.program l.frame l.callers

-- The program's units use slots of their own, and the frames fit. The process has the locations of its parameters, and at least as many locations as the innermost frame's floor.
pub record Fitting (path : Path) (program : Form) (f : Frame) (callers : List Frame) (locations : Locations) : Type 0 where
  pub uses : UsesOwnSlots program
  pub fit : FramesFit program (parameters path program f callers) f callers
  pub long : parameters path program f callers ≤ length locations
  pub floor : f.floor ≤ length locations

-- the same of the state of a process
abbrev pub IsFitting : LocalState → Type 0
IsFitting l = Fitting l.path l.program l.frame l.callers l.locations
