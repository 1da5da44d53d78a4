use Rattle.shim_results.proofs.Beginnings.{begin_alike}
use Rattle.shim_results.proofs.laws.stopped_runs_begin_alike.Goals as goal

pub returns : goal.returns
returns c = begin_alike
