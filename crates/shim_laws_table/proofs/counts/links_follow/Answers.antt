use Rattle.shim_laws_table.proofs.Linked.{links_follow}
use Rattle.shim_laws_table.proofs.counts.links_follow.Goals as goal

pub returns : goal.returns
returns g c = links_follow g.L.Local.ops
