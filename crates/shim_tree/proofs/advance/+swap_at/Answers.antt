use Rattle.std.proofs.Common.{drop}
use Rattle.shim_semantics.specs.Places.{branches}
use Rattle.shim_tree.proofs.Swaps.{swapped_child, swapped_live_child, none_swapped}
use Rattle.shim_tree.proofs.advance.+swap_at.Goals as goal

pub returns-then-branch-len-2 : goal.returns-then-branch-len-2
returns-then-branch-len-2 g t c =
    let m = c.args.last.now in
    let own = g.L.Local.ops.path m in
    let left = branches (drop c.args.at own) in
    swapped_child m c.args.process.now c.args.status.now c.in-Forked.processes _ c.in-Forked.statuses _ c.in-Forked.is c.in-Forked.processes-is c.in-Forked.statuses-is
    c.in-Some.branch (branches (drop c.in-Some.rest own)) left c.in-Some.ensures c.len.result c.len.ensures
    c.if-branch-len.true c.len-then-branch-len.result c.len-then-branch-len.ensures c.if-branch-len-2.true
    c.index_mut.result.now c.swap_at.new.process c.index_mut-then-branch-len-2.result.now c.swap_at.new.status
    c.index_mut.ensures.value c.index_mut-then-branch-len-2.ensures.value c.swap_at.ensures

pub returns-else-branch-len-2 : goal.returns-else-branch-len-2
returns-else-branch-len-2 g t c =
    let m = c.args.last.now in
    let own = g.L.Local.ops.path m in
    let left = branches (drop c.args.at own) in
    swapped_live_child m c.args.process.now c.args.status.now c.in-Forked.processes _ c.in-Forked.statuses _ c.in-Forked.is c.in-Forked.processes-is c.in-Forked.statuses-is
    c.in-Some.branch (branches (drop c.in-Some.rest own)) left c.in-Some.ensures c.len.result c.len.ensures
    c.if-branch-len.true c.len-then-branch-len.result c.len-then-branch-len.ensures c.if-branch-len-2.false
    c.index_mut-else-branch-len-2.result.now c.swap_live.new.process c.index_mut-else-branch-len-2.ensures.value c.swap_live.ensures

pub returns-else-branch-len : goal.returns-else-branch-len
returns-else-branch-len g t c =
    let m = c.args.last.now in
    let own = g.L.Local.ops.path m in
    let left = branches (drop c.args.at own) in
    none_swapped m c.args.process.now c.args.status.now c.in-Forked.processes _ c.in-Forked.statuses _ c.in-Forked.is c.in-Forked.processes-is c.in-Forked.statuses-is
    c.in-Some.branch (branches (drop c.in-Some.rest own)) left c.in-Some.ensures c.len.result c.len.ensures
    c.if-branch-len.false
