use Rattle.shim_run_state.proofs.EnqueuesAll.{ListedSoFar, QuietSoFar}
use Rattle.shim_run_state.proofs.enqueueing_all.enqueue_all.Given as goal

abbrev pub invariant-loop-place : goal.invariant-loop-place
invariant-loop-place g l = ListedSoFar g.L.Local.ops l.table l.numbers l.place l.initial.event_queue l.event_queue × QuietSoFar g.L.Local.ops l.table l.numbers l.place l.initial.ready_queue l.ready_queue
