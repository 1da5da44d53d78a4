use denote.Param.Send.{sendable}
use Rattle.shim_walk.proofs.Sends.{walk_send}
use Rattle.shim_tests_runs.proofs.OwnChannels.{begins_with_its_own}
use Rattle.shim_tests_runs.proofs.orders.report_by.Goals as goal

pub end_by-requires-send-L : goal.end_by-requires-send-L
end_by-requires-send-L c κs = search (walk_send, sendable)

pub end_by-requires-clause-own : goal.end_by-requires-clause-own
end_by-requires-clause-own c κs = begins_with_its_own _ _ _ c.in_ok-root.ensures
