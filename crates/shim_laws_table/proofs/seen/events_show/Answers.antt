use Rattle.shim_laws_table.proofs.EventPlaces.{events_show}
use Rattle.shim_laws_table.proofs.seen.events_show.Goals as goal

pub returns : goal.returns
returns g c = events_show g.L.Local.ops (g.met.L.Local g.world.𝓛 g.world.𝓜 g.world.𝓡 ((λ s x. x), (λ x. x), (λ x. x), λ x. x)).laws
