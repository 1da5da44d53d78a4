use Rattle.std.proofs.Common.{rules, ◌∙◌, arith, refl}
use Rattle.shim_semantics.specs.Nodes.{death}
use Rattle.shim_semantics.specs.Poison.{all_poisoned}
use Rattle.shim_tree.specs.NodeStatus.{together, nodes}
use Rattle.shim_tree.proofs.Fills.{noted_from, noted_all, noted_enough, noted_there, noted_here, noted_next, place_inside, place_outside}
use Rattle.shim_tree.proofs.Poisonings.{poisoned_next, poisoned_fork}
use Rattle.shim_tree.proofs.poison.+poison_filled.Goals as goal

pub loop-i-init : goal.loop-i-init
loop-i-init g t c =
    let effects = noted_all c.args.status.now c.in-Forked.processes c.in-Forked.statuses c.in-Forked.is c.requires.filled in (
      search rules,
      noted_enough _ c.in-Forked.processes _ c.in-Forked.statuses c.len-i-end.result (λ u. c.in-Forked.processes-is u) (λ u. c.in-Forked.statuses-is u) c.len-i-end.ensures effects,
      (λ u. noted_from 0 (c.in-Forked.processes-is u).items (c.in-Forked.statuses-is u).items) ∙ effects,
      refl,
    )

pub poison_filled-requires-clause-filled : goal.poison_filled-requires-clause-filled
poison_filled-requires-clause-filled g t c κs within =
    let h = place_inside _ c.in-Forked.processes c.len-i-end.result c.loop-i.i (λ u. c.in-Forked.processes-is u) c.len-i-end.ensures c.loop-i-test.true in
    noted_here c.loop-i.i _ c.loop-i.statuses.items c.index_mut.result.now c.loop-i.invariant.2 h c.index_mut.ensures.value

pub loop-i-preserved : goal.loop-i-preserved
loop-i-preserved g t c =
    let o = g.L.Local.ops in
    let ch = c.args.chan.now.channel in
    let x = death c.args.label in
    let i = c.loop-i.i in
    let bs = c.loop-i.statuses.items in
    let h = place_inside _ c.in-Forked.processes c.len-i-end.result i (λ u. c.in-Forked.processes-is u) c.len-i-end.ensures c.loop-i-test.true in
    let k = noted_there i _ bs c.loop-i.invariant.2 h in (
      search rules,
      c.loop-i.invariant.1,
      noted_next i _ bs c.poison_filled.new.status c.loop-i.invariant.2,
      poisoned_next o ch x i _ bs c.index.result.now c.index_mut.result.now c.poison_filled.new.status h k c.index.ensures c.index_mut.ensures.value c.poison_filled.ensures ∙ c.loop-i.invariant.3,
    )

pub returns-after-loop-i : goal.returns-after-loop-i
returns-after-loop-i g t c =
    let o = g.L.Local.ops in
    let ch = c.args.chan.now.channel in
    let x = death c.args.label in
    let k = let d = c.loop-i-test.false in place_outside _ c.in-Forked.processes c.len-i-end.result c.loop-i.i (λ u. c.in-Forked.processes-is u) c.len-i-end.ensures (omega (arith, d)) in
    poisoned_fork o ch x c.loop-i.i c.args.process.now c.args.status.now c.in-Forked.processes _ c.in-Forked.statuses c.loop-i.statuses c.in-Forked.is k
    (c.loop-i.invariant.3 ∙ λ u. all_poisoned o ch x (together (c.in-Forked.processes-is u).items (nodes (c.in-Forked.statuses-is u).items)))
