use Rattle.shim_laws_stops.proofs.Reached.{ends_have_nothing_left}
use Rattle.shim_laws_stops.proofs.laws.ends_have_nothing_left.Goals as goal

pub returns : goal.returns
returns c = ends_have_nothing_left
