-- What the frames of a process have for the exceptions that they throw and hand on.
use Rattle.std.specs.Prelude.{◌≡◌, ◌<◌, ◌≤◌, ◌⊎◌, ℕ, ◌+◌, true, List, [], ◌∷◌, length, take, Some, slice_get}
use Rattle.shim_units.specs.declared.form.Form.{Form}
use Rattle.shim_units.specs.declared.unit.UStmt.{UStmt}
use Rattle.shim_units.specs.Lifting.{is_among}
use Rattle.shim_process.specs.Todo.{Item, Do, Leave}
use Rattle.shim_process.specs.LocalState.{LocalState, Frame, ExceptionPlace, unit_at}
use Rattle.shim_process.specs.StatementViews.{exceptions_of}
use Rattle.shim_process.specs.Ends.{without_last}
use Rattle.shim_laws_stops.specs.InForce.{throws, AllInForce}

-- Each exception of the list is one of the `given` exceptions that the unit is given, or one of these exception places is its place.
abbrev pub AreInScope : ℕ → List ExceptionPlace → List ℕ → Type 0
AreInScope given places xs = (x : ℕ) → is_among xs x ≡ true → (x < given) ⊎ (is_among (exceptions_of places) x ≡ true)

-- the statement throws and hands on what is known there
pub record ThrowsKnown (program : Form) (given : ℕ) (places : List ExceptionPlace) (s : UStmt) : Type 0 where
  pub exceptions : List ℕ
  pub known : AreInScope given places exceptions
  pub right : throws program s exceptions ≡ true

-- Each statement of these items throws and hands on known exceptions (`ThrowsKnown`). The end of a `try` puts the last place out of force.
abbrev pub ItemsThrow : Form → ℕ → List ExceptionPlace → List Item → Type 0
ItemsThrow program given places [] = Unit {0}
ItemsThrow program given places (Leave ∷ k) = ItemsThrow program given (without_last places) k
ItemsThrow program given places (Do n s ∷ k) = ThrowsKnown program given places s × ItemsThrow program given places k

-- The items of each exception place throw and hand on known exceptions, where only the places outside of it are in force.
abbrev pub PlacesThrow : Form → ℕ → List ExceptionPlace → Type 0
PlacesThrow program given places = (i : ℕ) (e : ExceptionPlace) → slice_get places i ≡ Some e → ItemsThrow program given (take i places) e.todo

-- no label is that of the program's end
abbrev pub AreLabels : List ℕ → Type 0
AreLabels [] = Unit {0}
AreLabels (x ∷ xs) = (1 ≤ x) × AreLabels xs

-- The frame has a label other than 0 for each exception that its unit is given. Its items throw and hand on known exceptions, and so do those of its exception places.
pub record FrameLabels (program : Form) (f : Frame) : Type 0 where
  pub todo : ItemsThrow program (unit_at program f.unit).throws f.places f.todo
  pub places : PlacesThrow program (unit_at program f.unit).throws f.places
  pub many : length f.labels ≡ (unit_at program f.unit).throws
  pub labels : AreLabels f.labels

-- The frame and each of its callers has its labels (`FrameLabels`). The `outer` of each is the number of exception places in the frames of its own callers.
abbrev pub StackLabels : Form → Frame → List Frame → Type 0
StackLabels program f [] = FrameLabels program f × (f.outer ≡ 0)
StackLabels program f (caller ∷ callers) = FrameLabels program f × (f.outer ≡ caller.outer + length caller.places) × StackLabels program caller callers

-- Each unit of the program throws only what is in force. The frames of the process have a label for each exception that their units are given.
pub record HasLabels (l : LocalState) : Type 0 where
  pub units : AllInForce l.program
  pub frames : StackLabels l.program l.frame l.callers
