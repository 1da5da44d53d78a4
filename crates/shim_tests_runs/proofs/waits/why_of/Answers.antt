use denote.Param.Send.{sendable}
use Rattle.shim_walk.proofs.Sends.{walk_send}
use Rattle.shim_tests_runs.proofs.OwnChannels.{begins_with_its_own}
use Rattle.shim_tests_runs.proofs.waits.why_of.Goals as goal

pub answer_after-requires-send-L : goal.answer_after-requires-send-L
answer_after-requires-send-L c κs = search (walk_send, sendable)

pub answer_after-requires-clause-own : goal.answer_after-requires-clause-own
answer_after-requires-clause-own c κs = begins_with_its_own _ _ _ c.in_ok-root.ensures
