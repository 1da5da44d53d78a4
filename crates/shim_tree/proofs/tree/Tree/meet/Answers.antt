use Rattle.std.proofs.Common.{sym, subst, to_z, of_z, w64}
use Rattle.shim_tree.specs.NodeStatus.{node}
use Rattle.shim_semantics.specs.Sound.{IsSound}
use Rattle.shim_tree.specs.Advancing.{AllHaveCounts}
use Rattle.shim_semantics.proofs.SoundEvents.{meeting_sound}
use Rattle.shim_tree.proofs.ReservedCounts.{meeting_placed}
use Rattle.shim_tree.proofs.tree.Tree.meet.Goals as goal

pub invariant_of-self-2 : goal.invariant_of-self-2
invariant_of-self-2 g c =
    let o = g.L.Local.ops in
    let laws = (g.met.L.Local g.world.𝓛 g.world.𝓜 g.world.𝓡 ((λ s x. x), (λ x. x), (λ x. x), λ x. x)).laws in
    let n = node c.self.inside.root c.self.inside.status in
    let v = to_z w64 (of_z w64 c.value_met-value.result) in
    subst (λ z. IsSound o z × AllHaveCounts o c.self.inside.counts z) (sym c.receive_at.ensures)
    (meeting_sound o laws c.args.chan.now.channel v n c.self.invariant.0, meeting_placed o c.self.inside.counts laws c.args.chan.now.channel v n c.self.invariant.0.below c.self.invariant.1)
