use Rattle.shim_semantics.proofs.SoundEvents.{events_keep_sound, runs_stay_sound}
use Rattle.shim_semantics.proofs.laws.holders.Goals as goal

pub returns-clause-kept : goal.returns-clause-kept
returns-clause-kept g c =
    let laws = (g.met.L.Local g.world.𝓛 g.world.𝓜 g.world.𝓡 ((λ s x. x), (λ x. x), (λ x. x), λ x. x)).laws in
    events_keep_sound g.L.Local.ops laws

pub returns-clause-runs : goal.returns-clause-runs
returns-clause-runs g c =
    let laws = (g.met.L.Local g.world.𝓛 g.world.𝓜 g.world.𝓡 ((λ s x. x), (λ x. x), (λ x. x), λ x. x)).laws in
    runs_stay_sound g.L.Local.ops laws
