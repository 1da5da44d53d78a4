use Rattle.shim_sharing.proofs.FirstPlace.{first_refusal}
use Rattle.shim_sharing.proofs.laws.first_refusal_is_reported.Goals as goal

pub returns : goal.returns
returns c = first_refusal
