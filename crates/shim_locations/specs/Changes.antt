-- What a store, a loan and a return change of one location.
use Rattle.std.specs.Prelude.{ℤ}
use Rattle.shim_base.specs.Value.{stored}
use Rattle.shim_process.specs.Locations.{Location, kept, restored}

-- the location with this value, stored by the location's type
abbrev pub with_stored : ℤ → Location → Location
with_stored v l = record l { value = stored l.ty v }

-- the location that a process keeps when a branch takes the location by reference
abbrev pub kept_location : Location → Location
kept_location l = record l { ownership = kept l.ownership }

-- the location with the value of the location `back`, and with its own ownership restored by that of `back`
abbrev pub given_back : Location → Location → Location
given_back back l = record l { value = back.value; ownership = restored back.ownership l.ownership }
