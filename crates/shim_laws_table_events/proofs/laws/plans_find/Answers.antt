use Rattle.shim_laws_table_events.proofs.meetings.Plans.{plans_find}
use Rattle.shim_laws_table_events.proofs.laws.plans_find.Goals as goal

pub returns : goal.returns
returns g c = plans_find g.L.Local.ops (g.met.L.Local g.world.𝓛 g.world.𝓜 g.world.𝓡 ((λ s x. x), (λ x. x), (λ x. x), λ x. x)).laws
