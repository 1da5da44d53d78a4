use Rattle.shim_laws_sources.proofs.Units.{units_use_slots_of_their_own}
use Rattle.shim_laws_sources.proofs.laws.units_use_slots_of_their_own.Goals as goal

pub returns : goal.returns
returns c = units_use_slots_of_their_own
