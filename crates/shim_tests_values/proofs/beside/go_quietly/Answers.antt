use Rattle.shim_tests_values.proofs.Keeping.{quiet_steps}
use Rattle.shim_tests_values.proofs.beside.go_quietly.Goals as goal

pub returns : goal.returns
returns g c =
    let laws = (g.met.L.Local g.world.𝓛 g.world.𝓜 g.world.𝓡 ((λ s x. x), (λ x. x), (λ x. x), λ x. x)).laws in
    quiet_steps g.L.Local.ops laws c.quiet-quiet.result.taken c.args.process.now c.quiet-quiet.new.self c.quiet-quiet.ensures.steps c.path-path.ensures.sound
