use Rattle.shim_sharing.proofs.Disjoint.{no_two_writers}
use Rattle.shim_sharing.proofs.laws.accepted_has_no_two_writers.Goals as goal

pub returns : goal.returns
returns c = no_two_writers
