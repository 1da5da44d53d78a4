use Rattle.shim_laws_schedules.proofs.EveryPair.{events_commute}
use Rattle.shim_laws_schedules.proofs.Orders.{runs_agree}
use Rattle.shim_laws_schedules.proofs.laws.length.Goals as goal

pub returns : goal.returns
returns g c =
    let laws = (g.met.L.Local g.world.𝓛 g.world.𝓜 g.world.𝓡 ((λ s x. x), (λ x. x), (λ x. x), λ x. x)).laws in
    runs_agree g.L.Local.ops laws (events_commute g.L.Local.ops laws)
