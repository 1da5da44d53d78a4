use Rattle.shim_laws_table.proofs.Suffices.{actors_are_read}
use Rattle.shim_laws_table.proofs.counts.actors_are_read.Goals as goal

pub returns : goal.returns
returns g c = actors_are_read g.L.Local.ops
