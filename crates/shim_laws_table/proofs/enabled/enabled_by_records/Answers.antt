use Rattle.shim_laws_table.proofs.CanHappen.{enabled_by_records}
use Rattle.shim_laws_table.proofs.enabled.enabled_by_records.Goals as goal

pub returns : goal.returns
returns g c = enabled_by_records g.L.Local.ops (g.met.L.Local g.world.𝓛 g.world.𝓜 g.world.𝓡 ((λ s x. x), (λ x. x), (λ x. x), λ x. x)).laws
