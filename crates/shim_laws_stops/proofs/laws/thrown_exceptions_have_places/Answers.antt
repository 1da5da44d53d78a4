use Rattle.shim_laws_stops.proofs.Reached.{thrown_have_places}
use Rattle.shim_laws_stops.proofs.laws.thrown_exceptions_have_places.Goals as goal

pub returns : goal.returns
returns c = thrown_have_places
