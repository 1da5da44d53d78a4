use Rattle.shim_laws_schedules.proofs.PoisonDiamond.{poisons_change_places}
use Rattle.shim_laws_schedules.proofs.laws.poisons.Goals as goal

pub returns : goal.returns
returns g c =
    let laws = (g.met.L.Local g.world.𝓛 g.world.𝓜 g.world.𝓡 ((λ s x. x), (λ x. x), (λ x. x), λ x. x)).laws in
    poisons_change_places g.L.Local.ops laws
