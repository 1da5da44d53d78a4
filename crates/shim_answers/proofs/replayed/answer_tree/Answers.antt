use denote.Param.Send.{sendable}
use Rattle.shim_vm.proofs.Sends.{body_send}
use Rattle.shim_answers.proofs.replayed.answer_tree.Goals as goal

pub ended-requires-send-L : goal.ended-requires-send-L
ended-requires-send-L c κs = search (body_send, sendable)
