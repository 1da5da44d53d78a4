use Rattle.shim_process_table.proofs.HereMeets.{ReceivedSoFar}
use Rattle.shim_run_state.specs.Receiving.{PassesOn}
use Rattle.shim_run_state.proofs.meeting.receive_each.Given as goal

abbrev pub invariant-loop-place : goal.invariant-loop-place
invariant-loop-place g l = ReceivedSoFar g.L.Local.ops l.c.channel l.value l.numbers l.place l.initial.table l.table × PassesOn g.L.Local.ops l.initial.table l.initial.process_lists l.table l.process_lists
