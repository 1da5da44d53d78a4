use Rattle.shim_laws_table_events.proofs.queues.NoMore.{no_more_can_happen}
use Rattle.shim_laws_table_events.proofs.laws.no_more_can_happen.Goals as goal

pub returns : goal.returns
returns g c = no_more_can_happen g.L.Local.ops
