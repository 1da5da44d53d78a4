use Rattle.std.proofs.Common.{refl, ap, sym, ◌∙◌}
use Rattle.shim_tree.specs.NodeStatus.{node}
use Rattle.shim_semantics.specs.Places.{has_path, led_to}
use Rattle.shim_tree.proofs.ReservedCounts.{place_of_path}
use Rattle.shim_tree.proofs.Happens.{own_step_sound, more_placed, few_counted, own_done}
use Rattle.shim_tree.proofs.tree.Tree.step.Goals as goal

pub add-requires-clause-place : goal.add-requires-clause-place
add-requires-clause-place g c =
    let o = g.L.Local.ops in
    c.in_ok-own_step.ensures.keeps c.args.path.now
    (place_of_path o c.self.inside.counts c.args.path.now (node c.self.inside.root c.self.inside.status) (ap (λ t. has_path o c.args.path.now (led_to o t.root c.args.path.now)) c.self.view_is ∙ c.requires.its) c.self.invariant.1)

pub add-requires-clause-few : goal.add-requires-clause-few
add-requires-clause-few g c = few_counted c.own_step.new.counts c.args.path.now c.args.self.now.counts (c.in_ok-own_step.ensures.same ∙ ap (λ t. t.counts) c.self.view_is) c.requires.few

pub invariant_of-self-2 : goal.invariant_of-self-2
invariant_of-self-2 g c =
    let o = g.L.Local.ops in
    let laws = (g.met.L.Local g.world.𝓛 g.world.𝓜 g.world.𝓡 ((λ s x. x), (λ x. x), (λ x. x), λ x. x)).laws in (
      own_step_sound o laws c.args.path.now (node c.self.inside.root c.self.inside.status) (node c.own_step.new.root c.own_step.new.status) _ _ _ _ c.self.invariant.0 c.in_ok-own_step.ensures.ok,
      more_placed o c.own_step.new.counts c.add.new.self c.args.path.now (node c.own_step.new.root c.own_step.new.status) c.add.ensures (c.in_ok-own_step.ensures.places c.self.invariant.1),
    )

pub returns-clause-ok : goal.returns-clause-ok
returns-clause-ok g c =
    own_done g.L.Local.ops c.args.path.now _ _ c.args.self.now c.self.view_is c.in_ok-own_step.ensures.ok refl c.own_step.new.counts c.add.new.self (sym c.in_ok-own_step.ensures.same) refl c.add.ensures refl
