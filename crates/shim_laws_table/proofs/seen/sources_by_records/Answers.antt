use Rattle.shim_laws_table.proofs.Sources.{sources_by_records}
use Rattle.shim_laws_table.proofs.seen.sources_by_records.Goals as goal

pub returns : goal.returns
returns g c = sources_by_records g.L.Local.ops
