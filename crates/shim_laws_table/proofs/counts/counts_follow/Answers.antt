use Rattle.shim_laws_table.proofs.Brought.{counts_follow}
use Rattle.shim_laws_table.proofs.counts.counts_follow.Goals as goal

pub returns : goal.returns
returns g c = counts_follow g.L.Local.ops (g.met.L.Local g.world.𝓛 g.world.𝓜 g.world.𝓡 ((λ s x. x), (λ x. x), (λ x. x), λ x. x)).laws
