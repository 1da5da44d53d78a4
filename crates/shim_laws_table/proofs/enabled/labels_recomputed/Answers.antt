use Rattle.shim_laws_table.proofs.Recomputes.{labels_recomputed}
use Rattle.shim_laws_table.proofs.enabled.labels_recomputed.Goals as goal

pub returns : goal.returns
returns g c = labels_recomputed g.L.Local.ops (g.met.L.Local g.world.𝓛 g.world.𝓜 g.world.𝓡 ((λ s x. x), (λ x. x), (λ x. x), λ x. x)).laws
