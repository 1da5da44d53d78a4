-- A frame, with its position in the text as a number, and as the definition of a process has it.
use Rattle.std.specs.Prelude.{ℕ, Bool, List, map, Option}
use Rattle.shim_units.specs.declared.unit.UStmt.{UStmt}
use Rattle.shim_process.specs.LocalState.{Frame, ExceptionPlace}
use Rattle.shim_walk_frames.specs.declared.handler.Handler.{Handler}
use Rattle.shim_walk_frames.specs.declared.cursor.Cursor.{Cursor}
use Rattle.shim_walk_frames.specs.Pieces.{left_all}

-- a frame with numbers in the text of its unit in place of what is still to do
pub record FrameView : Type 0 where
  pub unit : ℕ
  -- the number of the statement at which it stands
  pub at : ℕ
  -- the statement of the unit's own list in which that one is, where it is known
  pub cursor : Option Cursor
  pub halfway : Bool
  pub slots : List ℕ
  pub labels : List ℕ
  pub floor : ℕ
  pub outer : ℕ
  pub places : List Handler

-- an exception place by the number of its `try` in this text
abbrev pub exception_place_of : List UStmt → Handler → ExceptionPlace
exception_place_of body a = record { exception = a.exception; name = a.name; line = a.line; variable = a.variable; todo = left_all body a.at }

-- the frame of a unit with this text
abbrev pub frame_of : List UStmt → FrameView → Frame
frame_of body s = record {
  unit = s.unit;
  todo = left_all body s.at;
  halfway = s.halfway;
  slots = s.slots;
  labels = s.labels;
  floor = s.floor;
  outer = s.outer;
  places = map (exception_place_of body) s.places;
}
