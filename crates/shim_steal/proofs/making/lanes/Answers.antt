use Rattle.std.proofs.Common.{rules, ◌≡◌, ◌+◌, length, ap, sym, subst, ◌∙◌, arith}
use Rattle.shim_steal.specs.Making.{AreNewLanes}
use Rattle.shim_steal.proofs.Linking.{no-lanes}
use Rattle.shim_steal.proofs.making.lanes.Goals as goal

pub loop-init : goal.loop-init
loop-init g c = (ap length c.new-all.ensures.items, no-lanes _ c.new-all.ensures.items, search rules)

pub loop-preserved : goal.loop-preserved
loop-preserved g c = let i = c.loop.invariant in let e = c.in_ok-add_lane.ensures.lanes in let t = c.loop-test.true in (e.0 ∙ ap (λ n. n + 1) i.0, e.1, search rules)

pub returns-clause-count : goal.returns-clause-count
returns-clause-count g c = let i = c.loop.invariant in let stop : c.loop.counter ≡ c.args.count = (let f = c.loop-test.false in let k = i.2 in omega arith) in ap length c.from.ensures ∙ i.0 ∙ stop

pub returns-clause-lanes : goal.returns-clause-lanes
returns-clause-lanes g c = let i = c.loop.invariant in let stop : c.loop.counter ≡ c.args.count = (let f = c.loop-test.false in let k = i.2 in omega arith) in
    subst (AreNewLanes c.args.count) (sym c.from.ensures) (subst (λ n. AreNewLanes n c.loop.all.items) (i.0 ∙ stop) i.1)
