-- In which statement of its unit's own list a frame stands.
use Rattle.std.specs.Prelude.{◌≡◌, ◌<◌, ◌≤◌, ℕ, suc, List, [], ◌∷◌, length, take, Option, None, Some}
use Rattle.shim_units.specs.declared.unit.Unit.{Unit as UnitOf}
use Rattle.shim_units.specs.declared.unit.UStmt.{UStmt}
use Rattle.shim_walk_frames.specs.declared.cursor.Cursor.{Cursor}
use Rattle.shim_walk_frames.specs.FrameViews.{FrameView}
use Rattle.shim_walk_frames.specs.Depths.{unit_stmts}
use Rattle.shim_walk_frames.specs.Successors.{size_all}

-- the cursor's index and first number are those of one statement of the list, or of its end, and the first number is at most `at`
pub record BeginsBefore (body : List UStmt) (f : Cursor) (at : ℕ) : Type 0 where
  pub within : f.index ≤ length body
  pub first : f.first ≡ size_all (take f.index body)
  pub reached : f.first ≤ at

-- the cursor is that of the statement to which the number `at` belongs, or of the end of the list if no statement has the number
pub record IsCursor (body : List UStmt) (f : Cursor) (at : ℕ) : Type 0 where
  pub begins : BeginsBefore body f at
  pub not_passed : f.index < length body → at < size_all (take (suc f.index) body)

-- where the cursor of a number is known, it is the right one
abbrev pub IsRightCursor : List UStmt → Option Cursor → ℕ → Type 0
IsRightCursor body None at = Unit {0}
IsRightCursor body (Some f) at = IsCursor body f at

-- if a frame has a cursor, it is that of the number at which the frame is, in the text of its unit
abbrev pub HasOwnCursor : List UnitOf → FrameView → Type 0
HasOwnCursor units s = IsRightCursor (unit_stmts units s.unit) s.cursor s.at

-- none of the frames has a cursor but its own
abbrev pub AllHaveOwnCursors : List UnitOf → List FrameView → Type 0
AllHaveOwnCursors units [] = Unit {0}
AllHaveOwnCursors units (s ∷ ss) = HasOwnCursor units s × AllHaveOwnCursors units ss
