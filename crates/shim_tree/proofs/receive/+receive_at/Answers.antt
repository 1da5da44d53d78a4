use Rattle.std.proofs.Common.{rules, ◌≡◌, ◌∙◌, ap, suc, ◌+◌, ◌<◌, ◌≤◌, arith, length, to_z, of_z, w64}
use Rattle.std.proofs.lemmas.Int.{to_z-of_z}
use Rattle.shim_semantics.specs.Nodes.{received, all_received}
use Rattle.shim_tree.specs.NodeStatus.{node, together, nodes}
use Rattle.shim_tree.specs.Meeting.{received_from}
use Rattle.shim_tree.proofs.Meetings.{received_child, received_live, received_all}
use Rattle.shim_tree.proofs.receive.+receive_at.Goals as goal
use Rattle.shim_tree.proofs.receive.+receive_at.Goals.{then-i-len, else-i-len}

pub loop-i-preserved : goal.loop-i-preserved
loop-i-preserved g t c =
    let o = g.L.Local.ops in
    let ch = c.args.chan.now.channel in
    let v = to_z w64 (of_z w64 c.args.value) in
    let i = c.loop-i.i in
    let w : i + 1 ≡ suc i = omega arith in
    let ls = c.loop-i.processes in
    let bs = c.loop-i.statuses in
    let h : i < length ls.items = let a = ls.ok.0 in let b = c.loop-i.invariant.1 in omega arith in (
      search rules,
      search rules,
      ap (λ z. received_from o ch v z (together c.if-i-len.processes.items (nodes c.if-i-len.statuses.items))) w
          ∙ elim c.if-i-len.branch [
            | then-i-len b ↦
                let k : i < length bs.items = let a = bs.ok.0 in let d = b.if-i-len.true in let e = c.len.ensures in omega arith in
                (λ u. received_from o ch v (suc i) (together (b.processes-is u).items (nodes (b.statuses-is u).items)))
                ∙ (received_child o ch v i ls.items bs.items b.index_mut.result.now b.receive_at.new.process b.index_mut-then-i-len.result.now b.receive_at.new.status h k b.index_mut.ensures.value b.index_mut-then-i-len.ensures.value b.receive_at.ensures
                ∙ c.loop-i.invariant.2)
            | else-i-len b ↦
                let k : length bs.items ≤ i = let a = bs.ok.0 in let d = b.if-i-len.false in let e = c.len.ensures in omega arith in
                (λ u. received_from o ch v (suc i) (together (b.processes-is u).items (nodes (b.statuses-is u).items)))
                ∙ (received_live o ch v i ls.items bs.items b.index_mut-else-i-len.result.now b.receive_here-else-i-len.new.process h k b.index_mut-else-i-len.ensures.value b.receive_here-else-i-len.ensures
                ∙ c.loop-i.invariant.2)
          ],
    )

pub returns-after-loop-i : goal.returns-after-loop-i
returns-after-loop-i g t c =
    let o = g.L.Local.ops in
    let k : length c.loop-i.processes.items ≤ c.loop-i.i = let a = c.loop-i.processes.ok.0 in let b = c.loop-i.invariant.1 in omega arith in
    received_all o c.args.chan.now.channel (to_z w64 (of_z w64 c.args.value)) c.loop-i.i c.args.process.now c.args.status.now c.in-Forked.processes c.loop-i.processes c.in-Forked.statuses c.loop-i.statuses c.in-Forked.is k
    (c.loop-i.invariant.2 ∙ λ u. all_received o c.args.chan.now.channel (to_z w64 (of_z w64 c.args.value)) (together (c.in-Forked.processes-is u).items (nodes (c.in-Forked.statuses-is u).items)))
    ∙ ap (λ z. received o c.args.chan.now.channel z (node c.args.process.now c.args.status.now)) (to_z-of_z w64 c.args.value c.ranges.value)
