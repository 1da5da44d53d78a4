use Rattle.std.proofs.lemmas.Result.{on_ok_weaker}
use Rattle.shim_local.specs.Laws.{by_call, by_thrown}
use Rattle.shim_tests_values.proofs.Keeping.{one_call, stays_then}
use Rattle.shim_tests_values.proofs.tracing.throw.Goals as goal

pub returns-in_ok-word-in-None : goal.returns-in_ok-word-in-None
returns-in_ok-word-in-None g c =
    let laws = (g.met.L.Local g.world.𝓛 g.world.𝓜 g.world.𝓡 ((λ s x. x), (λ x. x), (λ x. x), λ x. x)).laws in
    one_call g.L.Local.ops laws c.path-path.ensures.sound (by_call (by_thrown c.args.label c.requires c.thrown.ensures.after))

pub returns-in-Some : goal.returns-in-Some
returns-in-Some g c =
    let o = g.L.Local.ops in
    let laws = (g.met.L.Local g.world.𝓛 g.world.𝓜 g.world.𝓡 ((λ s x. x), (λ x. x), (λ x. x), λ x. x)).laws in
    on_ok_weaker c.unwind.result (stays_then o (one_call o laws c.path-path.ensures.sound (by_call (by_thrown c.args.label c.requires c.thrown.ensures.after)))) c.unwind.ensures
