use Rattle.shim_laws_stops.proofs.Reached.{arguments_have_locations}
use Rattle.shim_laws_stops.proofs.laws.arguments_have_locations.Goals as goal

pub returns : goal.returns
returns c = arguments_have_locations
