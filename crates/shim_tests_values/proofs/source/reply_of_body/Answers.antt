use denote.Param.Send.{sendable}
use Rattle.shim_vm.proofs.Sends.{body_send}
use Rattle.shim_tests_values.proofs.source.reply_of_body.Goals as goal

pub reply-requires-send-L : goal.reply-requires-send-L
reply-requires-send-L c κs = search (body_send, sendable)
