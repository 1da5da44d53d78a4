use Rattle.shim_laws_table.proofs.CanHappen.{nothing_new}
use Rattle.shim_laws_table.proofs.enabled.nothing_new.Goals as goal

pub returns : goal.returns
returns g c = nothing_new g.L.Local.ops (g.met.L.Local g.world.𝓛 g.world.𝓜 g.world.𝓡 ((λ s x. x), (λ x. x), (λ x. x), λ x. x)).laws
