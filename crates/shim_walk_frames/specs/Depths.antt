-- The frames and the locations of a process, which are all that a return changes, and the text in which a frame stands.
use Rattle.std.specs.Prelude.{◌<◌, ◌^◌, ℕ, List, [], ◌∷◌, map, take, slice_get, if◌then◌else◌}
use Rattle.shim_units.specs.declared.unit.Unit.{Unit as UnitOf}
use Rattle.shim_units.specs.declared.unit.UStmt.{UStmt}
use Rattle.shim_process.specs.Locations.{Locations}
use Rattle.shim_process.specs.Todo.{On}
use Rattle.shim_process.specs.LocalState.{Frame, unit_or}
use Rattle.shim_process.specs.Ends.{went, is_over}
use Rattle.shim_walk_frames.specs.FrameViews.{FrameView, frame_of}
use Rattle.shim_walk_frames.specs.Successors.{size_all}

-- the text of the unit of this number, or the empty text where no unit has it
abbrev pub unit_stmts : List UnitOf → ℕ → List UStmt
unit_stmts units n = (unit_or (slice_get units n)).body

-- the frame that the view shows in a program of these units
abbrev pub shown : List UnitOf → FrameView → Frame
shown units s = frame_of (unit_stmts units s.unit) s

-- the part of a process's state that a return changes
pub record Depth : Type 0 where
  pub frame : Frame
  pub callers : List Frame
  pub locations : Locations

-- the frames and the locations after returns from the innermost frame, as long as nothing is left to do in it and it has a caller
abbrev pub returned : List Frame → Frame → Locations → Depth
returned [] f locations = record { frame = f; callers = []; locations = locations }
returned (caller ∷ callers) f locations =
    if is_over f.todo then returned callers (went On caller) (take f.floor locations)
    else record { frame = f; callers = caller ∷ callers; locations = locations }

-- the frames and the locations of a process whose innermost frame and callers are given as views
abbrev pub depth_of : List UnitOf → FrameView → List FrameView → Locations → Depth
depth_of units top callers locations = record { frame = shown units top; callers = map (shown units) callers; locations = locations }

-- the numbers of each text fit 32 bits
abbrev pub AllFit : List UnitOf → Type 0
AllFit [] = Unit {0}
AllFit (u ∷ us) = (size_all u.body < 2 ^ 32) × AllFit us
