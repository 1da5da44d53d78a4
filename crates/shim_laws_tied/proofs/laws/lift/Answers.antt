use Rattle.shim_laws_tied.proofs.RunsTied.{same_enabled, same_walks, stay_tied, same_ended, same_runs, same_meanings}
use Rattle.shim_laws_tied.proofs.laws.lift.Goals as goal

pub returns-clause-enabled : goal.returns-clause-enabled
returns-clause-enabled g c =
    let one = (g.met.T.One.Local g.world.𝓛 g.world.𝓜 g.world.𝓡 ((λ s x. x), (λ x. x), (λ x. x), λ x. x)).laws in
    let other = (g.met.T.Other.Local g.world.𝓛 g.world.𝓜 g.world.𝓡 ((λ s x. x), (λ x. x), (λ x. x), λ x. x)).laws in
    same_enabled g.T.One.Local.ops g.T.Other.Local.ops g.T.Tie.tied g.met.T.Tie.kept one other

pub returns-clause-listed : goal.returns-clause-listed
returns-clause-listed g c = same_walks g.T.One.Local.ops g.T.Other.Local.ops g.T.Tie.tied g.met.T.Tie.kept

pub returns-clause-after : goal.returns-clause-after
returns-clause-after g c =
    let one = (g.met.T.One.Local g.world.𝓛 g.world.𝓜 g.world.𝓡 ((λ s x. x), (λ x. x), (λ x. x), λ x. x)).laws in
    let other = (g.met.T.Other.Local g.world.𝓛 g.world.𝓜 g.world.𝓡 ((λ s x. x), (λ x. x), (λ x. x), λ x. x)).laws in
    stay_tied g.T.One.Local.ops g.T.Other.Local.ops g.T.Tie.tied g.met.T.Tie.kept one other

pub returns-clause-ended : goal.returns-clause-ended
returns-clause-ended g c = same_ended g.T.One.Local.ops g.T.Other.Local.ops g.T.Tie.tied g.met.T.Tie.kept

pub returns-clause-runs : goal.returns-clause-runs
returns-clause-runs g c =
    let one = (g.met.T.One.Local g.world.𝓛 g.world.𝓜 g.world.𝓡 ((λ s x. x), (λ x. x), (λ x. x), λ x. x)).laws in
    let other = (g.met.T.Other.Local g.world.𝓛 g.world.𝓜 g.world.𝓡 ((λ s x. x), (λ x. x), (λ x. x), λ x. x)).laws in
    same_runs g.T.One.Local.ops g.T.Other.Local.ops g.T.Tie.tied g.met.T.Tie.kept one other

pub returns-clause-meanings : goal.returns-clause-meanings
returns-clause-meanings g c =
    let one = (g.met.T.One.Local g.world.𝓛 g.world.𝓜 g.world.𝓡 ((λ s x. x), (λ x. x), (λ x. x), λ x. x)).laws in
    let other = (g.met.T.Other.Local g.world.𝓛 g.world.𝓜 g.world.𝓡 ((λ s x. x), (λ x. x), (λ x. x), λ x. x)).laws in
    same_meanings g.T.One.Local.ops g.T.Other.Local.ops g.T.Tie.tied g.met.T.Tie.kept one other
