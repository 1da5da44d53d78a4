use Rattle.shim_tree.specs.NodeStatus.{node}
use Rattle.shim_semantics.proofs.SoundEvents.{poisons_sound}
use Rattle.shim_tree.proofs.ReservedCounts.{poison_placed}
use Rattle.shim_tree.proofs.tree.Tree.poison.Goals as goal

pub invariant_of-self-2 : goal.invariant_of-self-2
invariant_of-self-2 g c =
    let o = g.L.Local.ops in
    let laws = (g.met.L.Local g.world.𝓛 g.world.𝓜 g.world.𝓡 ((λ s x. x), (λ x. x), (λ x. x), λ x. x)).laws in
    let n = node c.self.inside.root c.self.inside.status in
    let k = node c.self.inside.root c.poison_on.new.status in (
      poisons_sound o laws c.args.path.now c.args.chan.now.channel n k c.self.invariant.0 c.in_ok-poison_on.ensures.ok,
      poison_placed o c.self.inside.counts laws c.args.path.now c.args.chan.now.channel n k c.self.invariant.0.below c.in_ok-poison_on.ensures.ok c.self.invariant.1,
    )
