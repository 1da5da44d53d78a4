use Rattle.shim_laws_table.proofs.MinLabels.{min_labels_decide}
use Rattle.shim_laws_table.proofs.enabled.min_labels_decide.Goals as goal

pub returns : goal.returns
returns g c = min_labels_decide g.L.Local.ops (g.met.L.Local g.world.𝓛 g.world.𝓜 g.world.𝓡 ((λ s x. x), (λ x. x), (λ x. x), λ x. x)).laws
