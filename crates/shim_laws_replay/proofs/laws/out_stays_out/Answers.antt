use Rattle.shim_laws_replay.proofs.Entries.{out_stays_out}
use Rattle.shim_laws_replay.proofs.laws.out_stays_out.Goals as goal

pub returns : goal.returns
returns g c = out_stays_out g.L.Local.ops (g.met.L.Local g.world.𝓛 g.world.𝓜 g.world.𝓡 ((λ s x. x), (λ x. x), (λ x. x), λ x. x)).laws
