use Rattle.shim_laws_replay.proofs.Keeping.{nets_keep}
use Rattle.shim_laws_replay.proofs.laws.nets_keep.Goals as goal

pub returns : goal.returns
returns g c = nets_keep g.L.Local.ops (g.met.L.Local g.world.𝓛 g.world.𝓜 g.world.𝓡 ((λ s x. x), (λ x. x), (λ x. x), λ x. x)).laws
