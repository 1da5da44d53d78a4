use Rattle.shim_laws_replay.proofs.Runs.{journals_go_on}
use Rattle.shim_laws_replay.proofs.laws.journals_go_on.Goals as goal

pub returns : goal.returns
returns g c = journals_go_on g.L.Local.ops (g.met.L.Local g.world.𝓛 g.world.𝓜 g.world.𝓡 ((λ s x. x), (λ x. x), (λ x. x), λ x. x)).laws
