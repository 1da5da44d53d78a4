use Rattle.std.proofs.Common.{◌+◌, true, arith, subst, sym}
use Rattle.shim_run_state.proofs.Blocks.{FilledSoFar, one_filled, all_filled}
use Rattle.shim_run_state.proofs.forking.list_block.Goals as goal

pub loop-branch-preserved : goal.loop-branch-preserved
loop-branch-preserved c =
    subst (FilledSoFar true c.args.first c.args.count (c.loop-branch.branch + 1) c.args.list.now) (sym c.add.ensures)
    (one_filled true c.args.first c.args.count c.loop-branch.branch c.args.list.now c.loop-branch.list (let w = c.requires.within in let n = c.loop-branch.invariant.as_many in omega (arith, w, n, c.loop-branch-test.true)) c.loop-branch.invariant)

pub returns : goal.returns
returns c = all_filled true c.args.first c.args.count c.loop-branch.branch c.args.list.now c.loop-branch.list (let e = c.loop-branch.auto.branch-end in omega (arith, e, c.loop-branch-test.false)) c.loop-branch.invariant
