use Rattle.shim_laws_table.proofs.Foreign.{foreign_stays}
use Rattle.shim_laws_table.proofs.counts.foreign_stays.Goals as goal

pub returns : goal.returns
returns g c = foreign_stays g.L.Local.ops (g.met.L.Local g.world.𝓛 g.world.𝓜 g.world.𝓡 ((λ s x. x), (λ x. x), (λ x. x), λ x. x)).laws
