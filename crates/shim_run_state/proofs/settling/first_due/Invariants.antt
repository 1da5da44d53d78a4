use Rattle.shim_records.specs.Waiting.{set_flags}
use Rattle.shim_run_state.specs.Settling.{KeepsEventsListed}
use Rattle.shim_run_state.proofs.settling.first_due.Given as goal

abbrev pub invariant-loop-number : goal.invariant-loop-number
invariant-loop-number g l = KeepsEventsListed g.L.Local.ops l.table l.fn.event_queue l.event_queue

abbrev pub decreases-loop-number : goal.decreases-loop-number
decreases-loop-number g l = set_flags l.event_queue
