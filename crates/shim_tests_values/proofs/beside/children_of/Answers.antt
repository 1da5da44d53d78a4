use Rattle.std.proofs.Common.{◌≡◌, subst, sym}
use Rattle.shim_local.specs.Process.{Parted}
use Rattle.shim_local.specs.Laws.{by_fork}
use Rattle.shim_local.specs.Views.{ForkGives}
use Rattle.shim_tests_values.proofs.Keeping.{one_call}
use Rattle.shim_tests_values.proofs.beside.children_of.Goals as goal

pub returns-in-Children-clause-stays : goal.returns-in-Children-clause-stays
returns-in-Children-clause-stays g c =
    let o = g.L.Local.ops in
    let laws = (g.met.L.Local g.world.𝓛 g.world.𝓜 g.world.𝓡 ((λ s x. x), (λ x. x), (λ x. x), λ x. x)).laws in
    let parts : o.fork c.args.process.now ≡ Parted c.fork.new.self c.in-Children.children = subst (λ f. ForkGives o c.args.process.now c.fork.new.self f) c.in-Children.is c.in_ok-fork.ensures.ok in
    one_call o laws c.path-path.ensures.sound (by_fork c.in-Children.children c.requires parts)

pub returns-in-Children-clause-born : goal.returns-in-Children-clause-born
returns-in-Children-clause-born g c =
    let o = g.L.Local.ops in
    let laws = (g.met.L.Local g.world.𝓛 g.world.𝓜 g.world.𝓡 ((λ s x. x), (λ x. x), (λ x. x), λ x. x)).laws in
    let parts : o.fork c.args.process.now ≡ Parted c.fork.new.self c.in-Children.children = subst (λ f. ForkGives o c.args.process.now c.fork.new.self f) c.in-Children.is c.in_ok-fork.ensures.ok in
    subst (λ ks. o.born c.fork.new.self ks) (sym c.into_vec.ensures) (laws.fork_born c.args.process.now c.fork.new.self c.in-Children.children c.path-path.ensures.sound (c.requires, parts))
