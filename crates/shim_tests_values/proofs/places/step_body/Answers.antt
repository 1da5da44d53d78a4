use denote.Param.Send.{sendable}
use Rattle.shim_vm.proofs.Sends.{body_send}
use Rattle.shim_tests_values.proofs.places.step_body.Goals as goal

pub step-requires-send-L : goal.step-requires-send-L
step-requires-send-L c κs = search (body_send, sendable)
