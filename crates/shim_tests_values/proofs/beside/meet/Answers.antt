use Rattle.shim_local.specs.Laws.{by_call, by_receive}
use Rattle.shim_tests_values.proofs.Keeping.{one_call}
use Rattle.shim_tests_values.proofs.beside.meet.Goals as goal

pub returns : goal.returns
returns g c =
    let laws = (g.met.L.Local g.world.𝓛 g.world.𝓜 g.world.𝓡 ((λ s x. x), (λ x. x), (λ x. x), λ x. x)).laws in
    one_call g.L.Local.ops laws c.path-path.ensures.sound (by_call (by_receive c.requires.0 _ c.requires.1 c.receive.ensures))
