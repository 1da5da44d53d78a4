-- What a location is to its channel, as the definition of a process names it.
use Rattle.shim_process.specs.Locations.{Ownership as OwnershipOf}
use Rattle.shim_process.specs.Locations as location
use Rattle.shim_locations.specs.declared.ownership.Ownership.{Ownership}
use Rattle.shim_locations.specs.declared.ownership.Ownership.TheVariants.{Own, Lent, Copy}

abbrev pub ownership_of : Ownership → OwnershipOf
ownership_of Own = location.Own
ownership_of Lent = location.Lent
ownership_of Copy = location.Copy
