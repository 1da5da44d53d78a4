use Rattle.shim_records.proofs.Representing.{blocks_are_events}
use Rattle.shim_records.proofs.laws.blocks_are_events.Goals as goal

pub returns : goal.returns
returns g c = blocks_are_events g.L.Local.ops
