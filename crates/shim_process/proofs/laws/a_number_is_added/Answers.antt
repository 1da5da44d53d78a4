use Rattle.shim_process.proofs.SerialRuns.{with_one}
use Rattle.shim_process.proofs.laws.a_number_is_added.Goals as goal

pub returns : goal.returns
returns c = with_one
