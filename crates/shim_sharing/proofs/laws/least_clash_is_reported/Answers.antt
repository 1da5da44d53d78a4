use Rattle.shim_sharing.proofs.LeastClash.{clash_is_least}
use Rattle.shim_sharing.proofs.laws.least_clash_is_reported.Goals as goal

pub returns : goal.returns
returns c = clash_is_least
