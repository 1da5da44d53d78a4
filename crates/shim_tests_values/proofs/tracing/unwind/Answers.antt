use Rattle.std.proofs.Common.{◌≤◌, ◌<◌, arith}
use Rattle.shim_local.specs.Laws.{by_unwind, by_label}
use Rattle.shim_tests_values.proofs.Keeping.{one_call}
use Rattle.shim_tests_values.proofs.tracing.unwind.Goals as goal

pub returns-in_ok-at_line : goal.returns-in_ok-at_line
returns-in_ok-at_line g c =
    let laws = (g.met.L.Local g.world.𝓛 g.world.𝓜 g.world.𝓡 ((λ s x. x), (λ x. x), (λ x. x), λ x. x)).laws in
    let own : g.L.Local.ops.base c.args.process.now ≤ c.args.death.label = omega (arith, c.base.ensures, c.if-base-label.true) in
    let below : c.args.death.label < g.L.Local.ops.handlers c.args.process.now = omega (arith, c.handlers.ensures, c.if-label-handlers.true) in
    one_call g.L.Local.ops laws c.path-path.ensures.sound (by_unwind (by_label c.args.death.label _ own below c.unwind.ensures))
