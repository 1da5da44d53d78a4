-- How a process goes on from a statement: past the ends of `try` blocks, whose exception places go out of force, and of called units, in the same step.
use Rattle.std.specs.Prelude.{◌-◌, Bool, true, false, List, [], ◌∷◌, length, take, if◌then◌else◌}
use Rattle.shim_process.specs.Todo.{Item, Do, Leave, Successor, On, followed}
use Rattle.shim_process.specs.LocalState.{LocalState, Frame, ExceptionPlace}

-- without the place that came into force last
abbrev pub without_last : List ExceptionPlace → List ExceptionPlace
without_last places = take (length places - 1) places

-- the frame with what is to be done after the ends of `try` blocks that come first; each of these ends takes the last exception place away
abbrev pub past_ends : List Item → List ExceptionPlace → Frame → Frame
past_ends [] places f = record f { todo = []; places = places }
past_ends (Leave ∷ k) places f = past_ends k (without_last places) f
past_ends (Do n s ∷ k) places f = record f { todo = Do n s ∷ k; places = places }

-- the frame gone on from its statement to the successor, and past the ends of `try` blocks that come then
unfoldable pub went : Successor → Frame → Frame
went successor f = past_ends (followed successor f.todo) f.places (record f { halfway = false })

-- nothing is left to do
abbrev pub is_over : List Item → Bool
is_over [] = true
is_over (i ∷ k) = false

-- The process in this frame, with these callers. If nothing is left to do in a frame that has a caller, the process leaves it: it drops the frame's own locations, and the caller goes on after the call.
abbrev pub settled : List Frame → Frame → LocalState → LocalState
settled [] f l = record l { frame = f; callers = [] }
settled (caller ∷ callers) f l =
    if is_over f.todo then settled callers (went On caller) (record l { locations = take f.floor l.locations })
    else record l { frame = f; callers = caller ∷ callers }

-- the process gone on from its statement to the successor, and past the ends of `try` blocks and of called units that come then
unfoldable pub gone : Successor → LocalState → LocalState
gone successor l = settled l.callers (went successor l.frame) l
