use Rattle.shim_laws_table_events.proofs.queues.Idle.{record_decides}
use Rattle.shim_laws_table_events.proofs.laws.record_decides.Goals as goal

pub returns : goal.returns
returns g c = record_decides g.L.Local.ops (g.met.L.Local g.world.𝓛 g.world.𝓜 g.world.𝓡 ((λ s x. x), (λ x. x), (λ x. x), λ x. x)).laws
