use Rattle.std.proofs.Common.{ap}
use Rattle.shim_laws_schedules.proofs.EveryPair.{events_commute}
use Rattle.shim_laws_schedules.proofs.Orders.{runs_agree}
use Rattle.shim_waits.specs.Waits.{explained}
use Rattle.shim_waits.proofs.laws.ends_alike.Goals as goal

pub returns : goal.returns
returns g c =
    let o = g.L.Local.ops in
    let laws = (g.met.L.Local g.world.𝓛 g.world.𝓜 g.world.𝓡 ((λ s x. x), (λ x. x), (λ x. x), λ x. x)).laws in
    λ t u w es fs sound one rests other also_rests. ap (λ v. explained o v.root) ((runs_agree o laws (events_commute o laws) t u es sound one rests w fs other).1 also_rests).1
