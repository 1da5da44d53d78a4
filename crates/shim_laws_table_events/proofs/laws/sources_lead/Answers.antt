use Rattle.shim_laws_table_events.proofs.meetings.Leading.{sources_lead}
use Rattle.shim_laws_table_events.proofs.laws.sources_lead.Goals as goal

pub returns : goal.returns
returns g c = sources_lead g.L.Local.ops (g.met.L.Local g.world.𝓛 g.world.𝓜 g.world.𝓡 ((λ s x. x), (λ x. x), (λ x. x), λ x. x)).laws
