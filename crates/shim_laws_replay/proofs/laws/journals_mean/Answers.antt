use Rattle.shim_laws_replay.proofs.Ends.{journals_mean}
use Rattle.shim_laws_replay.proofs.laws.journals_mean.Goals as goal

pub returns : goal.returns
returns g c = journals_mean g.L.Local.ops (g.met.L.Local g.world.𝓛 g.world.𝓜 g.world.𝓡 ((λ s x. x), (λ x. x), (λ x. x), λ x. x)).laws
