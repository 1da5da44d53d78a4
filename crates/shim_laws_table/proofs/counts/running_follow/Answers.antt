use Rattle.shim_laws_table.proofs.Linked.{running_follow}
use Rattle.shim_laws_table.proofs.counts.running_follow.Goals as goal

pub returns : goal.returns
returns g c = running_follow g.L.Local.ops
