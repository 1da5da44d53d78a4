-- The state of a process, from the fields that the code keeps of it.
use Rattle.std.specs.Prelude.{ℕ, Bool, List, map, Option, Some, None}
use Rattle.shim_base.specs.Paths.{Path, NamedChannel}
use Rattle.shim_units.specs.declared.form.Form.{Form}
use Rattle.shim_process.specs.Locations.{Locations}
use Rattle.shim_process.specs.LocalState.{LocalState, TrappedAt}
use Rattle.shim_process.specs.declared.serial_run.SerialRun.{SerialRun}
use Rattle.shim_walk.specs.declared.trapped_at.TrappedAt.{TrappedAt as CodeTrappedAt}
use Rattle.shim_walk_frames.specs.FrameViews.{FrameView}
use Rattle.shim_walk_frames.specs.Depths.{shown}

-- the trap and the line that the code keeps, in the definition's form
abbrev pub trapped_at_of : Option CodeTrappedAt → Option TrappedAt
trapped_at_of None = None
trapped_at_of (Some s) = Some (record { kind = s.kind; line = s.line })

-- the state of a process in the units of this program, from what the code keeps
abbrev pub state_of : Path → ℕ → ℕ → ℕ → List SerialRun → List NamedChannel → FrameView → List FrameView → Locations → Option ℕ → Bool → Option CodeTrappedAt → Form → List ℕ → LocalState
state_of path base made forks untaken given top callers locations input_at holds_output trap program input = record {
  path = path;
  base = base;
  made = made;
  forks = forks;
  untaken = untaken;
  given = given;
  frame = shown program.units top;
  callers = map (shown program.units) callers;
  locations = locations;
  input_at = input_at;
  holds_output = holds_output;
  trap = trapped_at_of trap;
  program = program;
  input = input;
}
