use Rattle.shim_tree.specs.NodeStatus.{node}
use Rattle.shim_tree.proofs.Happens.{own_step_sound}
use Rattle.shim_tree.proofs.tree.Tree.change.Goals as goal

pub invariant_of-self-2 : goal.invariant_of-self-2
invariant_of-self-2 g c =
    let o = g.L.Local.ops in
    let laws = (g.met.L.Local g.world.𝓛 g.world.𝓜 g.world.𝓡 ((λ s x. x), (λ x. x), (λ x. x), λ x. x)).laws in (
      own_step_sound o laws c.args.path.now (node c.self.inside.root c.self.inside.status) (node c.own_step.new.root c.own_step.new.status) _ _ _ _ c.self.invariant.0 c.in_ok-own_step.ensures.ok,
      c.in_ok-own_step.ensures.places c.self.invariant.1,
    )
