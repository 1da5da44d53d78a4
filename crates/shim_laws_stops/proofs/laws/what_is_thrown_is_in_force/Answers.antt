use Rattle.shim_laws_stops.proofs.ThrowUnits.{all_in_force}
use Rattle.shim_laws_stops.proofs.laws.what_is_thrown_is_in_force.Goals as goal

pub returns : goal.returns
returns c = all_in_force
