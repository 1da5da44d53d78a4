use Rattle.shim_waits.proofs.Numbers.{numbers_lead}
use Rattle.shim_waits.proofs.Asked.{given_suffice}
use Rattle.shim_waits.proofs.laws.walk_numbers.Goals as goal

pub returns-clause-lead : goal.returns-clause-lead
returns-clause-lead g c = numbers_lead _

pub returns-clause-given : goal.returns-clause-given
returns-clause-given g c = given_suffice g.L.Local.ops (g.met.L.Local g.world.𝓛 g.world.𝓜 g.world.𝓡 ((λ s x. x), (λ x. x), (λ x. x), λ x. x)).laws
