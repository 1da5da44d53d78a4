use Rattle.shim_batch.proofs.Runs.{has_run}
use Rattle.shim_batch.proofs.running.run_net.Goals as goal

pub returns : goal.returns
returns g c = let e = c.rounds.ensures in has_run g.L.Local.ops c.args.net c.rounds.result e.root e.budget e.quiescent_or_spent e.keeps
