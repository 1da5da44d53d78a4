-- What a process has to do with a channel: whether it shares or carries it, its value, and which it was given.
use Rattle.std.specs.Prelude.{ℕ, ℤ, nat_lt, not, Bool, true, false, ◌&&◌, ◌||◌, List, [], ◌∷◌, Option, Some, None, slice_get}
use Rattle.shim_base.specs.Paths.{Channel, NamedChannel, same_channel, same_path}
use Rattle.shim_process.specs.Locations.{Location, own_of, location_value}
use Rattle.shim_process.specs.LocalState.{LocalState}
use Rattle.shim_process.specs.SerialRuns.{is_in_runs}

abbrev pub is_among : Channel → List NamedChannel → Bool
is_among c [] = false
is_among c (d ∷ ds) = same_channel d.channel c || is_among c ds

-- the serial number is of a channel that the process made, and not of one that a `try` made and no handler has taken
abbrev pub made_serial : LocalState → ℕ → Bool
made_serial l n = nat_lt n l.made && not (is_in_runs n l.untaken)

-- the process declared the channel: the channel's home is the process's path, and `made_serial` holds of its serial number
abbrev pub declared : LocalState → Channel → Bool
declared l c = same_path c.home l.path && made_serial l c.serial

-- an argument gave the process the channel, or the process declared it
unfoldable pub shares : LocalState → Channel → Bool
shares l c = is_among c l.given || declared l c

abbrev pub is_present : Option Location → Bool
is_present None = false
is_present (Some l) = true

-- one of its locations is the channel's own variable
unfoldable pub carries : LocalState → Channel → Bool
carries l c = is_present (own_of c l.locations)

-- the value of the channel's own variable where the process carries the channel, and else 0
unfoldable pub channel_value : LocalState → Channel → ℤ
channel_value l c = location_value (own_of c l.locations)

-- the channel at this index of those that the process was given
abbrev pub given_at : LocalState → ℕ → Option NamedChannel
given_at l at = slice_get l.given at
