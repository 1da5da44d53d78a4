use denote.Param.Send.{sendable}
use Rattle.shim_walk.proofs.Sends.{walk_send}
use Rattle.shim_tests_values.proofs.source.reply_of_walks.Goals as goal

pub told_same-requires-send-L : goal.told_same-requires-send-L
told_same-requires-send-L c κs = search (walk_send, sendable)
