use Rattle.shim_records.proofs.Representing.{fork_initial_counts}
use Rattle.shim_records.proofs.laws.fork_initial_counts.Goals as goal

pub returns : goal.returns
returns g c = fork_initial_counts g.L.Local.ops
