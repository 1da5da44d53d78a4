use Rattle.shim_laws_schedules.proofs.CatchLogs.{catches_are_logged}
use Rattle.shim_laws_schedules.proofs.Thrown.{thrown_where_caught}
use Rattle.shim_laws_schedules.proofs.laws.thrown.Goals as goal

pub returns-clause-caught : goal.returns-clause-caught
returns-clause-caught g c = thrown_where_caught g.L.Local.ops (g.met.L.Local g.world.𝓛 g.world.𝓜 g.world.𝓡 ((λ s x. x), (λ x. x), (λ x. x), λ x. x)).laws

pub returns-clause-logged : goal.returns-clause-logged
returns-clause-logged g c = catches_are_logged g.L.Local.ops
