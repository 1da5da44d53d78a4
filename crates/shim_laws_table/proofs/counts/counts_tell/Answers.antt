use Rattle.shim_laws_table.proofs.Tallies.{counts_tell}
use Rattle.shim_laws_table.proofs.counts.counts_tell.Goals as goal

pub returns : goal.returns
returns g c = counts_tell g.L.Local.ops
