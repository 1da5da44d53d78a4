use Rattle.shim_laws_stops.proofs.Reached.{gets_have_input}
use Rattle.shim_laws_stops.proofs.laws.gets_have_input.Goals as goal

pub returns : goal.returns
returns c = gets_have_input
