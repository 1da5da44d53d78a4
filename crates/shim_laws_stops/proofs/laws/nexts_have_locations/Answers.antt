use Rattle.shim_laws_stops.proofs.Reached.{nexts_have_locations}
use Rattle.shim_laws_stops.proofs.laws.nexts_have_locations.Goals as goal

pub returns : goal.returns
returns c = nexts_have_locations
