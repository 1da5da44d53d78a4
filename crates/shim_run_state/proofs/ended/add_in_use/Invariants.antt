use Rattle.shim_run_log.specs.Summed.{with_counts}
use Rattle.shim_run_state.specs.RunStates.{path_at, counts_from}
use Rattle.shim_run_state.proofs.Summing.{SummedTo}
use Rattle.shim_run_state.proofs.ended.add_in_use.Given as goal

-- what is left, added to what was summed up, is all
abbrev pub invariant-loop-number : goal.invariant-loop-number
invariant-loop-number g l = SummedTo (path_at g.L.Local.ops l.table) l.own l.number l.sums (with_counts l.fn.sums (counts_from (path_at g.L.Local.ops l.table) l.own))
