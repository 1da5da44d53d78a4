use Rattle.shim_records.proofs.Acting.{step_updates_counts}
use Rattle.shim_records.proofs.laws.step_updates_counts.Goals as goal

pub returns : goal.returns
returns g c = step_updates_counts g.L.Local.ops (g.met.L.Local g.world.𝓛 g.world.𝓜 g.world.𝓡 ((λ s x. x), (λ x. x), (λ x. x), λ x. x)).laws
