use denote.Param.Send.{sendable}
use Rattle.shim_walk.proofs.Sends.{walk_send}
use Rattle.shim_tests_runs.proofs.OwnChannels.{begins_with_its_own}
use Rattle.shim_tests_runs.proofs.events.events_of.Goals as goal

pub events_after-requires-send-L : goal.events_after-requires-send-L
events_after-requires-send-L c κs = search (walk_send, sendable)

pub events_after-requires-clause-own : goal.events_after-requires-clause-own
events_after-requires-clause-own c κs = begins_with_its_own _ _ _ c.in_ok-root.ensures
