use Rattle.shim_laws_table.proofs.Singles.{single_changes_are_represented}
use Rattle.shim_laws_table.proofs.seen.single_changes_are_represented.Goals as goal

pub returns : goal.returns
returns g c = single_changes_are_represented g.L.Local.ops (g.met.L.Local g.world.𝓛 g.world.𝓜 g.world.𝓡 ((λ s x. x), (λ x. x), (λ x. x), λ x. x)).laws
