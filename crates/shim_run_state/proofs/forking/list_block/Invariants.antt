use Rattle.std.proofs.Common.{true}
use Rattle.shim_run_state.proofs.Blocks.{FilledSoFar}
use Rattle.shim_run_state.proofs.forking.list_block.Given as goal

abbrev pub invariant-loop-branch : goal.invariant-loop-branch
invariant-loop-branch l = FilledSoFar true l.first l.count l.branch l.initial.list l.list
