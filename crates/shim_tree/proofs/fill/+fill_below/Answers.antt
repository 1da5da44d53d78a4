use Rattle.std.proofs.Common.{rules, ◌≡◌, ◌∙◌, ap, suc, ◌+◌, ◌<◌, arith, length, slice_set}
use Rattle.std.proofs.lemmas.Result.{on_ok_weaker}
use Rattle.shim_tree.specs.NodeStatus.{nodes, together}
use Rattle.shim_tree.proofs.Fills.{filled_before, filled_next, before_all, fork_filled, nodes_set, same_fork}
use Rattle.shim_tree.proofs.fill.+fill_below.Goals as goal

pub loop-i-preserved : goal.loop-i-preserved
loop-i-preserved g t c =
    let i = c.loop-i.i in
    let w : i + 1 ≡ suc i = omega arith in
    let bs = c.loop-i.statuses in
    let h : i < length bs.items = let a = bs.ok.0 in let b = c.loop-i.invariant.1 in let d = c.loop-i-test.true in omega arith in
    let done = c.in_ok-fill_below-in-Forked.ensures in (
      search rules,
      search rules,
      nodes_set i bs.items c.index_mut.result.now c.fill_below.new.status h c.index_mut.ensures.value done.same ∙ c.loop-i.invariant.2,
      ap (λ z. filled_before z (slice_set bs.items i c.fill_below.new.status)) w ∙ filled_next i bs.items c.fill_below.new.status h done.ok c.loop-i.invariant.3,
    )

pub returns-in_err-fill_below-in-Forked-clause-same : goal.returns-in_err-fill_below-in-Forked-clause-same
returns-in_err-fill_below-in-Forked-clause-same g t c l =
    let i = c.loop-i.i in
    let bs = c.loop-i.statuses in
    let h : i < length bs.items = let a = bs.ok.0 in let b = c.loop-i.invariant.1 in let d = c.loop-i-test.true in omega arith in
    let same = nodes_set i bs.items c.index_mut.result.now c.fill_below.new.status h c.index_mut.ensures.value c.in_err-fill_below-in-Forked.ensures.same ∙ c.loop-i.invariant.2 in
    same_fork l c.args.status.now c.in-Forked.processes _ c.in-Forked.statuses _ c.in-Forked.is
    (ap (together _) same ∙ λ u. together (c.in-Forked.processes-is u).items (nodes (c.in-Forked.statuses-is u).items))

pub returns-after-loop-i-clause-same : goal.returns-after-loop-i-clause-same
returns-after-loop-i-clause-same g t c l =
    same_fork l c.args.status.now c.in-Forked.processes _ c.in-Forked.statuses _ c.in-Forked.is
    (c.fill_to.ensures.same _ ∙ (ap (together _) c.loop-i.invariant.2 ∙ λ u. together (c.in-Forked.processes-is u).items (nodes (c.in-Forked.statuses-is u).items)))

pub returns-after-loop-i-clause-ok : goal.returns-after-loop-i-clause-ok
returns-after-loop-i-clause-ok g t c =
    let d = c.loop-i-test.false in
    let b = c.loop-i.invariant.1 in
    let k = c.loop-i.statuses.ok.0 in
    let e = c.len.ensures in
    let all = c.fill_to.ensures.filled (before_all c.loop-i.i c.loop-i.statuses.items (omega arith) c.loop-i.invariant.3) in
    on_ok_weaker c.fill_to.result (λ n. fork_filled _ c.fill_to.new.statuses (omega (arith, e, n)) all) c.fill_to.ensures.ok
