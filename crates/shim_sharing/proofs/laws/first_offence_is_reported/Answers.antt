use Rattle.shim_sharing.proofs.FirstPlace.{first_place}
use Rattle.shim_sharing.proofs.laws.first_offence_is_reported.Goals as goal

pub returns : goal.returns
returns c = first_place
