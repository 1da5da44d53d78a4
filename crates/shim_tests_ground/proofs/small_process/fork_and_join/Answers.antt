use Rattle.std.proofs.Common.{rules, ◌≡◌, subst, sym}
use Rattle.shim_local.specs.Process.{Parted}
use Rattle.shim_tests_ground.proofs.small_process.fork_and_join.Goals as goal

pub join-requires : goal.join-requires
join-requires g c =
    let laws = (g.met.L.Local g.world.𝓛 g.world.𝓜 g.world.𝓡 ((λ s x. x), (λ x. x), (λ x. x), λ x. x)).laws in
    let o = g.L.Local.ops in
    let parent = c.fork.new.self in
    let gives : o.fork c.args.process.now ≡ Parted parent c.in-Children.children = search rules in
    let born = laws.fork_born c.args.process.now parent c.in-Children.children c.path.ensures.sound (c.requires, gives) in
    subst (o.born parent) (sym c.as_slice.ensures.value) (c.meet_first.ensures parent (subst (o.born parent) (sym c.into_vec-children.ensures) born))
