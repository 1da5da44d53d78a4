use Rattle.std.proofs.Common.{arith}
use Rattle.shim_run_state.proofs.Blocks.{one_filled, all_filled}
use Rattle.shim_run_state.proofs.forking.begin_counts.Goals as goal

pub loop-branch-preserved : goal.loop-branch-preserved
loop-branch-preserved c =
    let own = c.loop-branch.own in
    let w = c.requires in
    let n = c.loop-branch.invariant.as_many in
    let a = c.args.own.now.ok.0 in
    one_filled 0 c.args.first c.args.count c.loop-branch.branch c.args.own.now.items own.items (omega (arith, w, n, a, c.loop-branch-test.true)) c.loop-branch.invariant

pub returns : goal.returns
returns c = let e = c.loop-branch.auto.branch-end in all_filled 0 c.args.first c.args.count c.loop-branch.branch c.args.own.now.items c.loop-branch.own.items (omega (arith, e, c.loop-branch-test.false)) c.loop-branch.invariant
