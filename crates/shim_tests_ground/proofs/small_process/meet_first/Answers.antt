use Rattle.std.proofs.Common.{pos, sym}
use Rattle.shim_local.specs.Laws.{by_call, by_receive}
use Rattle.shim_tests_ground.proofs.Children.{first_moved}
use Rattle.shim_tests_ground.proofs.small_process.meet_first.Goals as goal

pub returns-in-Next : goal.returns-in-Next
returns-in-Next g c parent born =
    let laws = (g.met.L.Local g.world.𝓛 g.world.𝓜 g.world.𝓡 ((λ s x. x), (λ x. x), (λ x. x), λ x. x)).laws in
    let is_at = c.in-Next.ensures in
    let moved = by_call (by_receive c.in-Next.field-0.now (pos 0) (sym is_at) c.receive.ensures) in
    first_moved g.L.Local.ops laws parent c.in-Some.first.now c.receive.new.self c.args.children.now.items c.in-Some.ensures.item.3.0 c.in-Some.ensures.value c.path-path.ensures.sound moved born
