use Rattle.shim_laws_table.proofs.Shown.{start_represents}
use Rattle.shim_laws_table.proofs.seen.start_represents.Goals as goal

pub returns : goal.returns
returns g c = start_represents g.L.Local.ops
