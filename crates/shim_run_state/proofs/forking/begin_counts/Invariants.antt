use Rattle.shim_run_state.proofs.Blocks.{FilledSoFar}
use Rattle.shim_run_state.proofs.forking.begin_counts.Given as goal

abbrev pub invariant-loop-branch : goal.invariant-loop-branch
invariant-loop-branch l = FilledSoFar 0 l.first l.count l.branch l.initial.own.items l.own.items
