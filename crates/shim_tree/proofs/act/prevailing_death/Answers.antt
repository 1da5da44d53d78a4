use Rattle.std.proofs.Common.{◌≡◌, ◌+◌, ◌-◌, arith, ap, ◌∙◌}
use Rattle.shim_semantics.specs.Nodes.{prevailing_death}
use Rattle.shim_tree.proofs.Beside.{from}
use Rattle.shim_tree.proofs.Labels.{one_death}
use Rattle.shim_tree.proofs.act.prevailing_death.Goals as goal

pub loop-left-preserved : goal.loop-left-preserved
loop-left-preserved g c =
    let some = c.loop-left-test.true in
    let within = c.loop-left.invariant.0 in
    let back : c.loop-left.left ≡ c.loop-left.left - 1 + 1 = omega (arith, some) in (
      omega (arith, within),
      one_death (c.loop-left.left - 1) c.args.children.now c.args.statuses.now c.loop-left.death c.death_at.result c.prevailing-death.result (omega (arith, some, within)) c.death_at.ensures c.prevailing-death.ensures
          (c.loop-left.invariant.1 ∙ ap (λ i. prevailing_death (from i c.args.children.now c.args.statuses.now)) back),
    )
