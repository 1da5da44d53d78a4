use Rattle.shim_laws_replay.proofs.Runs.{journals_are_runs}
use Rattle.shim_laws_replay.proofs.laws.journals_are_runs.Goals as goal

pub returns : goal.returns
returns g c = journals_are_runs g.L.Local.ops
