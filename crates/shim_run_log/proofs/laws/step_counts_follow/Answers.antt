use Rattle.shim_run_log.proofs.Counted.{step_counts_follow}
use Rattle.shim_run_log.proofs.laws.step_counts_follow.Goals as goal

pub returns : goal.returns
returns g = step_counts_follow
