use Rattle.shim_process.proofs.SerialRuns.{without_one}
use Rattle.shim_process.proofs.laws.a_number_is_taken_out.Goals as goal

pub returns : goal.returns
returns c = without_one
