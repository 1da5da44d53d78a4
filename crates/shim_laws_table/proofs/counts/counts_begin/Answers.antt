use Rattle.shim_laws_table.proofs.Begun.{counts_begin}
use Rattle.shim_laws_table.proofs.counts.counts_begin.Goals as goal

pub returns : goal.returns
returns g c = counts_begin g.L.Local.ops
