use Rattle.shim_laws_table.proofs.LabelsLowering.{labels_lowered}
use Rattle.shim_laws_table.proofs.enabled.labels_lowered.Goals as goal

pub returns : goal.returns
returns g c = labels_lowered g.L.Local.ops (g.met.L.Local g.world.𝓛 g.world.𝓜 g.world.𝓡 ((λ s x. x), (λ x. x), (λ x. x), λ x. x)).laws
