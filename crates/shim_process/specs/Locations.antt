-- What a process keeps its variables in: locations, each on a channel, and what a loan and its return change of one.
use Rattle.std.specs.Prelude.{ℕ, ℤ, pos, Bool, true, false, ◌&&◌, List, [], ◌∷◌, Option, Some, None, if◌then◌else◌, slice_get, slice_set}
use Rattle.shim_base.specs.declared.types.Ty.{Ty}
use Rattle.shim_base.specs.Value.{stored}
use Rattle.shim_base.specs.Paths.{Channel, NamedChannel, same_channel}

-- what a location is to its channel
pub data Ownership : Type 0 where
  -- the channel's own variable, whose value a rendezvous gives to each process that waits at a `next` of the channel
  Own : Ownership
  -- the channel's own variable, but it is with a child of the fork at which the process stands
  Lent : Ownership
  Copy : Ownership

-- what a variable is kept in, with the channel by which processes share it
pub record Location : Type 0 where
  pub channel : NamedChannel
  pub ty : Ty
  pub value : ℤ
  pub ownership : Ownership

-- All locations of a process, by their numbers. That of a declared variable is empty until its declaration is executed, that of a handler's variable until the handler takes it. That of a stream is always empty.
abbrev pub Locations : Type 0
Locations = List (Option Location)

-- the inner option, or none where there is no inner one
abbrev pub flattened : Option (Option Location) → Option Location
flattened None = None
flattened (Some l) = l

-- the location of a number, or none where it is empty or the list is too short
unfoldable pub at_number : Locations → ℕ → Option Location
at_number locations n = flattened (slice_get locations n)

-- the channel of a location that is there
abbrev pub channel_in : Option Location → Option NamedChannel
channel_in None = None
channel_in (Some l) = Some l.channel

-- the channel on which the location of this number is
abbrev pub channel_at : Locations → ℕ → Option NamedChannel
channel_at locations n = channel_in (at_number locations n)

-- the value of a location, and 0 where there is none; a variable in scope has a location
abbrev pub location_value : Option Location → ℤ
location_value None = pos 0
location_value (Some l) = l.value

-- the location with this value, stored by the location's type; where there is no location there is still none
abbrev pub with_value : ℤ → Option Location → Option Location
with_value v None = None
with_value v (Some l) = Some (record l { value = stored l.ty v })

-- the locations after the value was stored, by its type, in the location of the number
unfoldable pub store_at : Locations → ℕ → ℤ → Locations
store_at locations n v = slice_set locations n (with_value v (at_number locations n))

-- a location of this ownership is the channel's own variable, and isn't with a child
abbrev pub is_own : Ownership → Bool
is_own Own = true
is_own Lent = false
is_own Copy = false

-- the ownership that the process keeps of what a branch takes by reference
abbrev pub kept : Ownership → Ownership
kept Own = Lent
kept Lent = Lent
kept Copy = Copy

-- the ownership that the child's location has if a branch takes a location of this ownership by reference
abbrev pub moved : Ownership → Ownership
moved Own = Own
moved Lent = Copy
moved Copy = Copy

-- The ownership after the join of a location that a branch took by reference. The first argument is the ownership of the child's location, the second the ownership that the process kept.
abbrev pub restored : Ownership → Ownership → Ownership
restored Own Own = Own
restored Own Lent = Own
restored Own Copy = Copy
restored Lent ownership = ownership
restored Copy ownership = ownership

-- what the process keeps of a location that a branch takes by reference
abbrev pub with_kept : Option Location → Option Location
with_kept None = None
with_kept (Some l) = Some (record l { ownership = kept l.ownership })

-- the child's location if a branch takes this location by reference: it has the same channel, type and value, and the ownership `moved`
abbrev pub with_moved : Option Location → Option Location
with_moved None = None
with_moved (Some l) = Some (record l { ownership = moved l.ownership })

-- what a process keeps of its locations when a branch takes the one of the number by reference
unfoldable pub lend_at : Locations → ℕ → Locations
lend_at locations n = slice_set locations n (with_kept (at_number locations n))

-- the location is on the channel
abbrev pub is_on : Channel → Location → Bool
is_on c l = same_channel l.channel.channel c

-- The location of the second argument with the value of the child's location, which is the first, and with the ownership `restored`. Where either isn't there, the second argument stays as it is.
abbrev pub with_back : Option Location → Option Location → Option Location
with_back (Some back) (Some l) = Some (record l { value = back.value; ownership = restored back.ownership l.ownership })
with_back _ l = l

-- the first location that is the channel's own variable
abbrev pub own_of : Channel → Locations → Option Location
own_of c [] = None
own_of c (None ∷ locations) = own_of c locations
own_of c (Some l ∷ locations) = if is_own l.ownership && is_on c l then Some l else own_of c locations
