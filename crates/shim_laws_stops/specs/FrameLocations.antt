-- What the frames of a process have for the variables that they name.
use Rattle.std.specs.Prelude.{◌≡◌, ◌<◌, ◌≤◌, ◌⊎◌, ℕ, Bool, true, ◌&&◌, List, [], ◌∷◌, ◌++◌, length, take, Option, Some, None, slice_get}
use Rattle.shim_units.specs.declared.form.Form.{Form}
use Rattle.shim_units.specs.declared.unit.Unit.{Unit as UnitOf}
use Rattle.shim_units.specs.declared.unit.UStmt.{UStmt}
use Rattle.shim_units.specs.declared.unit.UWhat.{UWhat, UWhat-F, fold-UWhat, map-UWhat, out-UWhat}
use Rattle.shim_units.specs.Lifting.{is_among}
use Rattle.shim_process.specs.declared.handler_variable.HandlerVariable.{HandlerVariable}
use Rattle.shim_process.specs.Locations.{Locations}
use Rattle.shim_process.specs.Todo.{Item, Do, Leave}
use Rattle.shim_process.specs.LocalState.{LocalState, Frame, ExceptionPlace, unit_at, number_of, location_of}
use Rattle.shim_process.specs.OwnSlots.{is_own_slot, UsesOwnSlots}
use Rattle.shim_process.specs.FittingFrames.{FrameFits}
use Rattle.shim_laws_stops.specs.Named.{IsThere}
use Rattle.shim_laws_stops.specs.InScope.{is_number, option_right, Scoped, what_scoped, scoped, all_scoped, AllInScope}

-- the slot has a location, where it holds a number
abbrev pub HasLocation : UnitOf → Locations → List ℕ → ℕ → Type 0
HasLocation u locations slots x = is_number (slice_get u.slots x) ≡ true → IsThere (location_of locations slots x)

-- whether a statement of this kind is right, and what it declares
abbrev pub scoped_kind : Form → UnitOf → UWhat-F UWhat UStmt → Scoped
scoped_kind program u w = what_scoped program u (map-UWhat UWhat UStmt Scoped Scoped (fold-UWhat Scoped Scoped (what_scoped program u) (λ s. s.what)) (scoped program u) w)

-- a statement still to do is right where these slots are in scope; of a `for` the first part is done
abbrev pub item_right : Form → UnitOf → UWhat-F UWhat UStmt → List ℕ → Bool
item_right program u (UWhat-F.For first test step body) xs = option_right u xs test && (all_scoped program u step xs && all_scoped program u body xs)
item_right program u w xs = (scoped_kind program u w).right xs

-- The statement is right where the slots `slots` are in scope (`item_right`). Each of these slots has what `Has` asks for, or is among the declared ones.
pub record ItemScoped (program : Form) (u : UnitOf) (Has : ℕ → Type 0) (declared : List ℕ) (s : UStmt) : Type 0 where
  pub slots : List ℕ
  pub known : (x : ℕ) → is_among slots x ≡ true → Has x ⊎ (is_among declared x ≡ true)
  pub right : item_right program u (out-UWhat s.what) slots ≡ true

-- Each statement of these items names what is in scope (`ItemScoped`), where the slots `declared` and those of the statements before it are declared.
abbrev pub ItemsScoped : Form → UnitOf → (ℕ → Type 0) → List ℕ → List Item → Type 0
ItemsScoped program u Has declared [] = Unit {0}
ItemsScoped program u Has declared (Leave ∷ k) = ItemsScoped program u Has declared k
ItemsScoped program u Has declared (Do n s ∷ k) = ItemScoped program u Has declared s × ItemsScoped program u Has ((scoped program u s).declares ++ declared) k

-- the slots that the next item declares; none where it is the end of a `try`, or there is no item
abbrev pub next_declares : Form → UnitOf → List Item → List ℕ
next_declares program u [] = []
next_declares program u (Leave ∷ k) = []
next_declares program u (Do n s ∷ k) = (scoped program u s).declares

-- the slot of a handler's variable
abbrev pub slot_taken : Option HandlerVariable → Option ℕ
slot_taken None = None
slot_taken (Some y) = Some y.slot

-- the slot of the variable of a `try`'s handler, where the statement is a `try` and the handler has one
abbrev pub what_takes : UWhat-F UWhat UStmt → Option ℕ
what_takes (UWhat-F.Try body x y handler) = y
what_takes _ = None

-- the slot of the handler's variable, where the next item is a `try` whose handler has one
abbrev pub next_takes : List Item → Option ℕ
next_takes [] = None
next_takes (Leave ∷ k) = None
next_takes (Do n s ∷ k) = what_takes (out-UWhat s.what)

-- The items of each exception place name what is in scope. The first item declares nothing. The slot of its handler's variable is that of the place's variable, if there is one.
abbrev pub PlacesScoped : Form → UnitOf → (ℕ → Type 0) → List ExceptionPlace → Type 0
PlacesScoped program u Has [] = Unit {0}
PlacesScoped program u Has (p ∷ places) = ItemsScoped program u Has [] p.todo × (next_declares program u p.todo ≡ []) × (next_takes p.todo ≡ slot_taken p.variable) × PlacesScoped program u Has places

-- What is to do in the frame, and was at its exception places, names only variables that have a location or are declared before. The frame fits its unit, with room for its own variables.
pub record FrameScoped (program : Form) (locations : Locations) (f : Frame) : Type 0 where
  pub fit : FrameFits program 0 f
  -- it has one number for each slot of its unit
  pub slots : length f.slots ≡ length (unit_at program f.unit).slots
  pub todo : ItemsScoped program (unit_at program f.unit) (HasLocation (unit_at program f.unit) locations f.slots) [] f.todo
  pub places : PlacesScoped program (unit_at program f.unit) (HasLocation (unit_at program f.unit) locations f.slots) f.places
  -- there is room for the locations of its own variables
  pub room : (x : ℕ) → is_own_slot (unit_at program f.unit) x ≡ true → number_of f.slots x < length locations

-- Each frame is scoped (`FrameScoped`), a caller over the locations before the floor of the frame that it called. The next statement of a caller declares nothing.
abbrev pub FramesScoped : Form → Locations → Frame → List Frame → Type 0
FramesScoped program locations f [] = FrameScoped program locations f
FramesScoped program locations f (caller ∷ callers) =
    FrameScoped program locations f × (f.floor ≤ length locations) × (next_declares program (unit_at program caller.unit) caller.todo ≡ []) × FramesScoped program (take f.floor locations) caller callers

-- The program's units use slots of their own, and name only what is in scope. The frames of the process have locations for what they name.
pub record HasLocations (l : LocalState) : Type 0 where
  pub own : UsesOwnSlots l.program
  pub units : AllInScope l.program
  pub frames : FramesScoped l.program l.locations l.frame l.callers
