-- A process put at another statement of its innermost unit, and out of that unit.
use Rattle.std.specs.Prelude.{◌≡◌, ℕ, Bool, List, ◌∷◌, take}
use Rattle.shim_process.specs.LocalState.{Frame, LocalState, unit_at}
use Rattle.shim_walk_frames.specs.Pieces.{left_all}

-- the process at the statement of this number of its innermost unit, or at its second part, with `kept` of the unit's outermost exception places
abbrev pub resting : ℕ → Bool → ℕ → LocalState → LocalState
resting number halfway kept l = record l {
  frame = record l.frame { todo = left_all (unit_at l.program l.frame.unit).body number; halfway = halfway; places = take kept l.frame.places };
}

-- the process left its innermost unit and dropped that unit's locations; the caller is innermost then, still at its call
pub record HasExitedFrame (before after : LocalState) : Type 0 where
  pub caller : Frame
  pub callers : List Frame
  pub waited : before.callers ≡ caller ∷ callers
  pub left : after ≡ record before { frame = caller; callers = callers; locations = take before.frame.floor before.locations }
