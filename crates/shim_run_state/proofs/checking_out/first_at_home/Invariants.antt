use Rattle.shim_records.specs.Waiting.{set_flags}
use Rattle.shim_run_state.specs.Enqueueing.{KeepsQuietListed}
use Rattle.shim_run_state.proofs.checking_out.first_at_home.Given as goal

abbrev pub invariant-loop-number : goal.invariant-loop-number
invariant-loop-number g l = KeepsQuietListed g.L.Local.ops l.table l.checked_out l.fn.ready_queue l.ready_queue

abbrev pub decreases-loop-number : goal.decreases-loop-number
decreases-loop-number g l = set_flags l.ready_queue
