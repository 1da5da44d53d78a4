use Rattle.shim_laws_sources.proofs.SortedUnits.{declared_slots_have_their_sorts}
use Rattle.shim_laws_sources.proofs.laws.declared_slots_have_their_sorts.Goals as goal

pub returns : goal.returns
returns c = declared_slots_have_their_sorts
