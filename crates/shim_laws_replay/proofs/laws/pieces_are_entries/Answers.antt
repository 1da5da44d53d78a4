use Rattle.shim_laws_replay.proofs.Entries.{pieces_are_entries}
use Rattle.shim_laws_replay.proofs.laws.pieces_are_entries.Goals as goal

pub returns : goal.returns
returns g c = pieces_are_entries g.L.Local.ops (g.met.L.Local g.world.𝓛 g.world.𝓜 g.world.𝓡 ((λ s x. x), (λ x. x), (λ x. x), λ x. x)).laws
