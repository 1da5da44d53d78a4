-- Unwinding to a handler over frames and locations alone, and the handler of an exception place.
use Rattle.std.specs.Prelude.{ℕ, ℤ, ◌-◌, nat_lt, List, [], ◌∷◌, take, Option, Some, None, slice_get, slice_set, if◌then◌else◌}
use Rattle.shim_process.specs.declared.handler_variable.HandlerVariable.{HandlerVariable}
use Rattle.shim_process.specs.declared.serial_run.SerialRun.{SerialRun}
use Rattle.shim_process.specs.Locations.{Locations}
use Rattle.shim_process.specs.LocalState.{Frame, ExceptionPlace, number_of}
use Rattle.shim_process.specs.SerialRuns.{without_some}
use Rattle.shim_process.specs.Unwinding.{handling, caught_location}
use Rattle.shim_walk_frames.specs.declared.handler.Handler.{Handler}
use Rattle.shim_walk_frames.specs.FrameViews.{FrameView}
use Rattle.shim_walk_frames.specs.Depths.{Depth, returned}

-- the locations after a handler's variable, where there is one, got the number v, in a frame of these slots
abbrev pub taking_in : Option HandlerVariable → ℤ → List ℕ → Locations → Locations
taking_in None v slots locations = locations
taking_in (Some y) v slots locations = slice_set locations (number_of slots y.slot) (Some (caught_location y.channel v))

-- the locations after the variable of the place's handler, where there are both, got the number
abbrev pub catching_in : Option ExceptionPlace → ℤ → Frame → Locations → Locations
catching_in None v f locations = locations
catching_in (Some p) v f locations = taking_in p.variable v f.slots locations

-- the frames and the locations after a throw to exception place n with the number v
abbrev pub unwound_in : List Frame → Frame → ℕ → ℤ → Locations → Depth
unwound_in [] f n v locations = returned [] (handling (slice_get f.places (n - f.outer)) (n - f.outer) f) (catching_in (slice_get f.places (n - f.outer)) v f locations)
unwound_in (caller ∷ callers) f n v locations =
    if nat_lt n f.outer then unwound_in callers caller n v (take f.floor locations)
    else returned (caller ∷ callers) (handling (slice_get f.places (n - f.outer)) (n - f.outer) f) (catching_in (slice_get f.places (n - f.outer)) v f locations)

-- the serial number of the channel of a handler's variable, where there is a variable
abbrev pub serial_of : Option HandlerVariable → Option ℕ
serial_of None = None
serial_of (Some y) = Some y.channel.channel.serial

-- the runs of serial numbers without that of the channel of the handler's variable, where there is a variable
abbrev pub untaken_without : Option HandlerVariable → List SerialRun → List SerialRun
untaken_without y runs = without_some (serial_of y) runs

-- the runs of serial numbers that no handler has taken, after a catch at this place
abbrev pub untaken_after : Option ExceptionPlace → List SerialRun → List SerialRun
untaken_after None runs = runs
untaken_after (Some p) runs = untaken_without p.variable runs

-- the variable of a handler in force
abbrev pub variable_of : Option Handler → Option HandlerVariable
variable_of None = None
variable_of (Some a) = a.variable

-- exception place n of those of the frames, which are counted from the outermost; the first frame is the innermost
abbrev pub handler_in : FrameView → ℕ → List FrameView → Option Handler
handler_in s n [] = slice_get s.places (n - s.outer)
handler_in s n (caller ∷ callers) = if nat_lt n s.outer then handler_in caller n callers else slice_get s.places (n - s.outer)

-- the name and the line of a handler's `try`, or 0 for both where there is no handler
abbrev pub name_and_line_of : Option Handler → ℕ × ℕ
name_and_line_of None = (0, 0)
name_and_line_of (Some a) = (a.name, a.line)
