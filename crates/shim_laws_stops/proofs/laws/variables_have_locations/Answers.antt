use Rattle.shim_laws_stops.proofs.Reached.{variables_have_locations}
use Rattle.shim_laws_stops.proofs.laws.variables_have_locations.Goals as goal

pub returns : goal.returns
returns c = variables_have_locations
