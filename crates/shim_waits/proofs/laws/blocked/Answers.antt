use Rattle.shim_waits.proofs.Blocked.{blocked_is_explained}
use Rattle.shim_waits.proofs.IsExplained.{explanation}
use Rattle.shim_waits.proofs.Others.{nobody_for_himself}
use Rattle.shim_waits.proofs.laws.blocked.Goals as goal

pub returns-clause-explained : goal.returns-clause-explained
returns-clause-explained g c = blocked_is_explained g.L.Local.ops (g.met.L.Local g.world.𝓛 g.world.𝓜 g.world.𝓡 ((λ s x. x), (λ x. x), (λ x. x), λ x. x)).laws

pub returns-clause-holds : goal.returns-clause-holds
returns-clause-holds g c = explanation g.L.Local.ops (g.met.L.Local g.world.𝓛 g.world.𝓜 g.world.𝓡 ((λ s x. x), (λ x. x), (λ x. x), λ x. x)).laws

pub returns-clause-others : goal.returns-clause-others
returns-clause-others g c = nobody_for_himself g.L.Local.ops (g.met.L.Local g.world.𝓛 g.world.𝓜 g.world.𝓡 ((λ s x. x), (λ x. x), (λ x. x), λ x. x)).laws
