-- How a throw that is caught goes to its handler, what it leaves of the frames, the exception places and the locations, and which `try` that is.
use Rattle.std.specs.Prelude.{ℕ, ℤ, ◌-◌, nat_lt, List, [], ◌∷◌, take, Option, Some, None, slice_get, slice_set, if◌then◌else◌}
use Rattle.shim_base.specs.declared.types.Ty.TheVariants.{Int32}
use Rattle.shim_base.specs.Value.{stored}
use Rattle.shim_base.specs.Paths.{NamedChannel}
use Rattle.shim_process.specs.Locations.{Location, Own}
use Rattle.shim_process.specs.SerialRuns.{without_serial}
use Rattle.shim_process.specs.Todo.{Second}
use Rattle.shim_process.specs.LocalState.{LocalState, Frame, ExceptionPlace, number_of}
use Rattle.shim_process.specs.declared.handler_variable.HandlerVariable.{HandlerVariable}
use Rattle.shim_process.specs.Ends.{went, settled}

-- The frame goes on with the handler of its exception place i, which goes out of force with those inside it. Without the place the frame stays as it is.
abbrev pub handling : Option ExceptionPlace → ℕ → Frame → Frame
handling None i f = f
handling (Some p) i f = went Second (record f { todo = p.todo; places = take i f.places })

-- the location of a handler's variable, on the channel that its `try` made, which it is the own variable of
abbrev pub caught_location : NamedChannel → ℤ → Location
caught_location c v = record { channel = c; ty = Int32; value = stored Int32 v; ownership = Own }

-- The variable of a handler gets a new location, which the number is stored in, and so the process declares its channel. An earlier location of its slot is forgotten.
abbrev pub taking : Option HandlerVariable → ℤ → Frame → LocalState → LocalState
taking None v f l = l
taking (Some y) v f l = record l {
  locations = slice_set l.locations (number_of f.slots y.slot) (Some (caught_location y.channel v));
  untaken = without_serial y.channel.channel.serial l.untaken;
}

-- the variable of the exception place's handler, where there are both, gets the number
abbrev pub catching : Option ExceptionPlace → ℤ → Frame → LocalState → LocalState
catching None v f l = l
catching (Some p) v f l = taking p.variable v f l

-- The state at the handler of exception place n of the process, with the number v in the handler's variable, if it has one. The frames that were entered since the place's `try` was executed are left, with their locations.
abbrev pub unwound : List Frame → Frame → ℕ → ℤ → LocalState → LocalState
unwound [] f n v l = settled [] (handling (slice_get f.places (n - f.outer)) (n - f.outer) f) (catching (slice_get f.places (n - f.outer)) v f l)
unwound (caller ∷ callers) f n v l =
    if nat_lt n f.outer then unwound callers caller n v (record l { locations = take f.floor l.locations })
    else settled (caller ∷ callers) (handling (slice_get f.places (n - f.outer)) (n - f.outer) f) (catching (slice_get f.places (n - f.outer)) v f l)

-- at the handler of the exception of this label, which was thrown with this number
unfoldable pub unwind : LocalState → ℕ → ℤ → LocalState
unwind l label v = unwound l.callers l.frame (label - l.base) v l

-- exception place n of those of the process, which are counted from the outermost
abbrev pub exception_place_in : Frame → ℕ → List Frame → Option ExceptionPlace
exception_place_in f n [] = slice_get f.places (n - f.outer)
exception_place_in f n (caller ∷ callers) = if nat_lt n f.outer then exception_place_in caller n callers else slice_get f.places (n - f.outer)

-- the name and the line of a `try`
abbrev pub name_and_line : Option ExceptionPlace → ℕ × ℕ
name_and_line None = (0, 0)
name_and_line (Some p) = (p.name, p.line)

-- the name and the line of the `try` whose exception place has this label
unfoldable pub handler : LocalState → ℕ → ℕ × ℕ
handler l label = name_and_line (exception_place_in l.frame (label - l.base) l.callers)
