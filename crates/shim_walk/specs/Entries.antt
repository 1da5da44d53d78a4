-- What is made for a call: the frame of the called unit, and the locations that come after the others.
use Rattle.std.specs.Prelude.{◌≡◌, ℕ, ◌+◌, List, ◌++◌, length, slice_get}
use Rattle.shim_base.specs.Paths.{Path}
use Rattle.shim_units.specs.declared.unit.Unit.{Unit as UnitOf}
use Rattle.shim_process.specs.Locations.{Locations}
use Rattle.shim_process.specs.LocalState.{unit_or}
use Rattle.shim_process.specs.Arguments.{Argument, entered, call_locations, call_slots, new_channels, declared_slots, empties}
use Rattle.shim_walk.specs.declared.entry.EnteredUnit.{EnteredUnit}
use Rattle.shim_walk_frames.specs.Depths.{shown}
use Rattle.shim_walk_frames.specs.Cursors.{HasOwnCursor}

-- what is made for a call of a process that has these locations
pub record IsEntry (units : List UnitOf) (unit : ℕ) (home : Path) (locations : Locations) (made outer : ℕ) (given : List Argument) (labels : List ℕ) (e : EnteredUnit) : Type 0 where
  pub top : shown units e.top ≡ entered (unit_or (slice_get units unit)) unit (call_slots (length locations) given (declared_slots (unit_or (slice_get units unit)))) labels (length locations) outer
  pub cursor : HasOwnCursor units e.top
  pub locations_are : e.locations ≡ call_locations home locations made given ++ empties (declared_slots (unit_or (slice_get units unit)))
  pub made_is : e.made ≡ made + new_channels given
