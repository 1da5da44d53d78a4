use Rattle.shim_laws_table_events.proofs.closes.Cuts.{cut}
use Rattle.shim_laws_table_events.proofs.laws.truncate_preserves.Goals as goal

pub returns : goal.returns
returns g c = cut g.L.Local.ops
