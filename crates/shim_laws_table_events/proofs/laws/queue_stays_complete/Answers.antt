use Rattle.shim_laws_table_events.proofs.queues.EventQueue.{queue_stays_complete}
use Rattle.shim_laws_table_events.proofs.laws.queue_stays_complete.Goals as goal

pub returns : goal.returns
returns g c = queue_stays_complete g.L.Local.ops (g.met.L.Local g.world.𝓛 g.world.𝓜 g.world.𝓡 ((λ s x. x), (λ x. x), (λ x. x), λ x. x)).laws
