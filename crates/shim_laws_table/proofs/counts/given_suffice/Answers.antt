use Rattle.shim_laws_table.proofs.Suffices.{given_suffice}
use Rattle.shim_laws_table.proofs.counts.given_suffice.Goals as goal

pub returns : goal.returns
returns g c = given_suffice g.L.Local.ops (g.met.L.Local g.world.𝓛 g.world.𝓜 g.world.𝓡 ((λ s x. x), (λ x. x), (λ x. x), λ x. x)).laws
