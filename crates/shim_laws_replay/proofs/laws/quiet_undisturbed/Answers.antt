use Rattle.shim_laws_replay.proofs.Undisturbed.{quiet_undisturbed}
use Rattle.shim_laws_replay.proofs.laws.quiet_undisturbed.Goals as goal

pub returns : goal.returns
returns g c = quiet_undisturbed g.L.Local.ops (g.met.L.Local g.world.𝓛 g.world.𝓜 g.world.𝓡 ((λ s x. x), (λ x. x), (λ x. x), λ x. x)).laws
