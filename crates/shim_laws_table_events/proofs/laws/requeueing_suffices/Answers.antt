use Rattle.shim_laws_table_events.proofs.queues.Requeueing.{requeueing_suffices}
use Rattle.shim_laws_table_events.proofs.laws.requeueing_suffices.Goals as goal

pub returns : goal.returns
returns g c = requeueing_suffices g.L.Local.ops (g.met.L.Local g.world.𝓛 g.world.𝓜 g.world.𝓡 ((λ s x. x), (λ x. x), (λ x. x), λ x. x)).laws
