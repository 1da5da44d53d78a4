use Rattle.shim_laws_table.proofs.Shown.{events_preserve}
use Rattle.shim_laws_table.proofs.seen.events_preserve.Goals as goal

pub returns : goal.returns
returns g c = events_preserve g.L.Local.ops (g.met.L.Local g.world.𝓛 g.world.𝓜 g.world.𝓡 ((λ s x. x), (λ x. x), (λ x. x), λ x. x)).laws
