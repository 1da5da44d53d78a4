use denote.Param.Send.{sendable}
use Rattle.shim_vm.proofs.Sends.{body_send}
use Rattle.shim_tests_values.proofs.source.reply_of_bodies.Goals as goal

pub told_same-requires-send-L : goal.told_same-requires-send-L
told_same-requires-send-L c κs = search (body_send, sendable)
