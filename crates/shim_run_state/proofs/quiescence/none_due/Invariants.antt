use Rattle.shim_laws_table_events.specs.queues.RecordDecisions.{HasNothingDue}
use Rattle.shim_run_state.proofs.Quiescent.{Before}
use Rattle.shim_run_state.proofs.quiescence.none_due.Given as goal

-- so far nothing is due
abbrev pub invariant-loop-at : goal.invariant-loop-at
invariant-loop-at g l = Before (λ n. HasNothingDue g.L.Local.ops l.table n) l.numbers l.at
