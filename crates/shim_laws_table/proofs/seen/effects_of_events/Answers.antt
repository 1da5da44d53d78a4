use Rattle.shim_laws_table.proofs.EventEffects.{effects_of_events}
use Rattle.shim_laws_table.proofs.seen.effects_of_events.Goals as goal

pub returns : goal.returns
returns g c = effects_of_events g.L.Local.ops
