use Rattle.shim_workers.proofs.Progress.{same_behind}
use Rattle.shim_workers.proofs.in_rounds.next_pid.Goals as goal

pub returns : goal.returns
returns g c = same_behind g.L.Local.ops c.args.net.now c.next_home.new.self c.next_home.result c.next_home.ensures
