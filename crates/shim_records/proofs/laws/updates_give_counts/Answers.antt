use Rattle.shim_records.proofs.ManyPropagations.{updates_give_counts}
use Rattle.shim_records.proofs.laws.updates_give_counts.Goals as goal

pub returns : goal.returns
returns g c = updates_give_counts g.L.Local.ops (g.met.L.Local g.world.𝓛 g.world.𝓜 g.world.𝓡 ((λ s x. x), (λ x. x), (λ x. x), λ x. x)).laws
