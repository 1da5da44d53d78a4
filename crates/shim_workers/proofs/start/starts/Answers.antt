use Rattle.std.proofs.Common.{rules, ◌≡◌, ◌++◌, map, refl, sym, ap, ◌∙◌}
use Rattle.shim_workers.proofs.Starting.{one_started, all_started}
use Rattle.shim_workers.proofs.start.starts.Goals as goal

pub loop-chair-init : goal.loop-chair-init
loop-chair-init g c =
    let given : c.into_iter-chair-iterator.result.rest.items ≡ c.args.chairs.items = search rules in
    ap (λ w. map (λ s. s.0) w ++ c.into_iter-chair-iterator.result.rest.items) c.in_ok-starts.ensures.items ∙ given

pub loop-chair-preserved : goal.loop-chair-preserved
loop-chair-preserved g c = one_started (λ s. s.0) c.loop-chair.starts.items c.push.new.self.items c.loop-chair.chair-iterator.rest.items c.next.new.self.rest.items c.args.chairs.items _ c.in-Some.chair c.in-Some.ensures.steps.0 refl c.in_ok-push.ensures.items c.loop-chair.invariant

pub returns : goal.returns
returns g c = record { chairs = all_started (λ s. s.0) c.loop-chair.starts.items c.loop-chair.chair-iterator.rest.items c.args.chairs.items (sym c.loop-chair.chair-iterator.rest.ok.0 ∙ c.in-None.ensures.steps.0) c.loop-chair.invariant }
