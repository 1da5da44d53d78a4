use Rattle.shim_laws_table_events.proofs.queues.Requeueing.{event_has_one_owner}
use Rattle.shim_laws_table_events.proofs.laws.event_has_one_owner.Goals as goal

pub returns : goal.returns
returns g c = event_has_one_owner g.L.Local.ops (g.met.L.Local g.world.𝓛 g.world.𝓜 g.world.𝓡 ((λ s x. x), (λ x. x), (λ x. x), λ x. x)).laws
