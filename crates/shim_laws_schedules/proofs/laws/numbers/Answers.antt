use Rattle.shim_laws_schedules.proofs.Thrown.{catches_have_numbers}
use Rattle.shim_laws_schedules.proofs.laws.numbers.Goals as goal

pub returns : goal.returns
returns g c = catches_have_numbers g.L.Local.ops (g.met.L.Local g.world.𝓛 g.world.𝓜 g.world.𝓡 ((λ s x. x), (λ x. x), (λ x. x), λ x. x)).laws
