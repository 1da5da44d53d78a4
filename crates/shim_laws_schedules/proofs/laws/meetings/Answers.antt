use Rattle.shim_laws_schedules.proofs.Homes.{meets_exactly}
use Rattle.shim_laws_schedules.proofs.MeetDiamond.{meetings_change_places}
use Rattle.shim_laws_schedules.proofs.laws.meetings.Goals as goal

pub returns-clause-exactly : goal.returns-clause-exactly
returns-clause-exactly g c =
    let laws = (g.met.L.Local g.world.𝓛 g.world.𝓜 g.world.𝓡 ((λ s x. x), (λ x. x), (λ x. x), λ x. x)).laws in
    meets_exactly g.L.Local.ops laws

pub returns-clause-change_places : goal.returns-clause-change_places
returns-clause-change_places g c =
    let laws = (g.met.L.Local g.world.𝓛 g.world.𝓜 g.world.𝓡 ((λ s x. x), (λ x. x), (λ x. x), λ x. x)).laws in
    meetings_change_places g.L.Local.ops laws
