use Rattle.shim_laws_table_events.proofs.keeping.Starts.{starts}
use Rattle.shim_laws_table_events.proofs.laws.start_establishes.Goals as goal

pub returns : goal.returns
returns g c = starts g.L.Local.ops (g.met.L.Local g.world.𝓛 g.world.𝓜 g.world.𝓡 ((λ s x. x), (λ x. x), (λ x. x), λ x. x)).laws
