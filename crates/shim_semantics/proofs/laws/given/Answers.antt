use Rattle.shim_semantics.proofs.GivenChannels.{children_share_given}
use Rattle.shim_semantics.proofs.laws.given.Goals as goal

pub returns : goal.returns
returns g c =
    let laws = (g.met.L.Local g.world.𝓛 g.world.𝓜 g.world.𝓡 ((λ s x. x), (λ x. x), (λ x. x), λ x. x)).laws in
    children_share_given g.L.Local.ops laws
