use Rattle.shim_local.specs.Laws.{by_join}
use Rattle.shim_tests_values.proofs.Keeping.{one_call}
use Rattle.shim_tests_values.proofs.beside.take_back.Goals as goal

pub returns : goal.returns
returns g c =
    let laws = (g.met.L.Local g.world.𝓛 g.world.𝓜 g.world.𝓡 ((λ s x. x), (λ x. x), (λ x. x), λ x. x)).laws in
    one_call g.L.Local.ops laws c.path-path.ensures.sound (by_join c.args.children.now c.args.goes_on c.are_sound.ensures c.requires c.join.ensures)
