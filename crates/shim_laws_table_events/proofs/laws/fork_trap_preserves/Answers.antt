use Rattle.shim_laws_table_events.proofs.forks.Traps.{fork_trap_preserves}
use Rattle.shim_laws_table_events.proofs.laws.fork_trap_preserves.Goals as goal

pub returns : goal.returns
returns g c = fork_trap_preserves g.L.Local.ops (g.met.L.Local g.world.𝓛 g.world.𝓜 g.world.𝓡 ((λ s x. x), (λ x. x), (λ x. x), λ x. x)).laws
