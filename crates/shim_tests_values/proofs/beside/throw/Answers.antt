use Rattle.shim_local.specs.Laws.{by_call, by_thrown}
use Rattle.shim_tests_values.proofs.Keeping.{one_call, stays_then}
use Rattle.shim_tests_values.proofs.beside.throw.Goals as goal

pub returns-in-Some : goal.returns-in-Some
returns-in-Some g c =
    let o = g.L.Local.ops in
    let laws = (g.met.L.Local g.world.𝓛 g.world.𝓜 g.world.𝓡 ((λ s x. x), (λ x. x), (λ x. x), λ x. x)).laws in
    stays_then o (one_call o laws c.path-path.ensures.sound (by_call (by_thrown c.args.label c.requires c.thrown.ensures.after))) c.unwind.ensures

pub returns-in-None : goal.returns-in-None
returns-in-None g c =
    let laws = (g.met.L.Local g.world.𝓛 g.world.𝓜 g.world.𝓡 ((λ s x. x), (λ x. x), (λ x. x), λ x. x)).laws in
    one_call g.L.Local.ops laws c.path-path.ensures.sound (by_call (by_thrown c.args.label c.requires c.thrown.ensures.after))
