use Rattle.std.proofs.Common.{refl, sym, ap, ◌∙◌}
use Rattle.shim_semantics.specs.Places.{route}
use Rattle.shim_tree.specs.NodeStatus.{node}
use Rattle.shim_tree.proofs.Children.{state_node}
use Rattle.shim_tree.proofs.AtOnce.{at_its_place, within_bounds, advances_from, stays_whole}
use Rattle.shim_semantics.proofs.SoundEvents.{runs_stay_sound}
use Rattle.shim_tree.proofs.tree.Tree.advance.Goals as goal

pub add-requires-clause-place : goal.add-requires-clause-place
add-requires-clause-place g c =
    at_its_place g.L.Local.ops _ c.self.inside.counts refl c.args.steps c.args.last c.args.self.now c.self.view_is c.requires.comes c.self.invariant.1 c.path.result.now c.path.ensures.path

pub add-requires-clause-few : goal.add-requires-clause-few
add-requires-clause-few g c =
    within_bounds g.L.Local.ops _ c.self.inside.counts refl c.args.steps c.args.last c.args.self.now c.self.view_is c.requires.few c.path.result.now

pub invariant_of-self : goal.invariant_of-self
invariant_of-self g c =
    let o = g.L.Local.ops in
    let laws = (g.met.L.Local g.world.𝓛 g.world.𝓜 g.world.𝓡 ((λ s x. x), (λ x. x), (λ x. x), λ x. x)).laws in
    let l = c.self.inside.root in
    let b = c.self.inside.status in
    stays_whole o _ c.self.inside.counts refl c.args.steps c.args.last (node c.swap_on.new.root c.swap_on.new.status)
    (λ q r. c.swap_on.ensures q (ap (λ z. route (o.path z) (o.path c.args.last)) (sym (state_node l b)) ∙ r))
    c.path.result.now c.path.ensures.path c.add.new.self c.add.ensures laws c.self.invariant.0 (runs_stay_sound o laws) c.args.self.now c.self.view_is c.requires.comes c.self.invariant.1

pub returns : goal.returns
returns g c =
    let o = g.L.Local.ops in
    let laws = (g.met.L.Local g.world.𝓛 g.world.𝓜 g.world.𝓡 ((λ s x. x), (λ x. x), (λ x. x), λ x. x)).laws in
    let l = c.self.inside.root in
    let b = c.self.inside.status in
    advances_from o _ c.self.inside.counts refl c.args.steps c.args.last (node c.swap_on.new.root c.swap_on.new.status)
    (λ q r. c.swap_on.ensures q (ap (λ z. route (o.path z) (o.path c.args.last)) (sym (state_node l b)) ∙ r))
    c.path.result.now c.path.ensures.path c.add.new.self c.add.ensures laws c.self.invariant.0 c.args.self.now c.self.view_is c.requires.comes
