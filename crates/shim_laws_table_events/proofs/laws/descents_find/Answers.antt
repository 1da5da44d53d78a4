use Rattle.shim_laws_table_events.proofs.meetings.Descents.{descents_find}
use Rattle.shim_laws_table_events.proofs.laws.descents_find.Goals as goal

pub returns : goal.returns
returns g c = descents_find g.L.Local.ops
