use denote.Param.Send.{sendable}
use Rattle.shim_walk.proofs.Sends.{walk_send}
use Rattle.shim_tests_values.proofs.source.reply_of_walk.Goals as goal

pub reply-requires-send-L : goal.reply-requires-send-L
reply-requires-send-L c κs = search (walk_send, sendable)
