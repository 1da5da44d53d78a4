use Rattle.shim_code.proofs.PublishedCode.{unit_shown}
use Rattle.shim_code.proofs.laws.machine_runs_the_code.Goals as goal

pub returns : goal.returns
returns c = unit_shown
