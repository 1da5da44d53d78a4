use Rattle.shim_laws_schedules.proofs.EveryPair.{events_commute}
use Rattle.shim_laws_schedules.proofs.laws.diamond.Goals as goal

pub returns : goal.returns
returns g c = events_commute g.L.Local.ops (g.met.L.Local g.world.𝓛 g.world.𝓜 g.world.𝓡 ((λ s x. x), (λ x. x), (λ x. x), λ x. x)).laws
