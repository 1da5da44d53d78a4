use Rattle.std.proofs.Common.{map}
use Rattle.shim_run_log.specs.Summed.{with_counts}
use Rattle.shim_run_state.specs.Fields.{count_in}
use Rattle.shim_run_state.proofs.Summing.{PastSummedTo}
use Rattle.shim_run_state.proofs.ended.add_past.Given as goal

-- what is left, added to what was summed up, is all
abbrev pub invariant-loop-steps : goal.invariant-loop-steps
invariant-loop-steps l = PastSummedTo l.past l.steps-index l.sums (with_counts l.fn.sums (map count_in l.past))
