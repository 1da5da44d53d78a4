use Rattle.shim_laws_replay.proofs.Moments.{ends_are_read_off}
use Rattle.shim_laws_replay.proofs.laws.ends_are_read_off.Goals as goal

pub returns : goal.returns
returns g c = ends_are_read_off g.L.Local.ops (g.met.L.Local g.world.𝓛 g.world.𝓜 g.world.𝓡 ((λ s x. x), (λ x. x), (λ x. x), λ x. x)).laws
