use denote.Param.Send.{sendable}
use Rattle.shim_walk.proofs.Sends.{walk_send}
use Rattle.shim_vm.proofs.Sends.{body_send}
use Rattle.shim_tests_values.proofs.source.gone.Goals as goal

pub go-requires-send-A : goal.go-requires-send-A
go-requires-send-A c κs = search (walk_send, sendable)

pub go-requires-send-B : goal.go-requires-send-B
go-requires-send-B c κs = search (body_send, sendable)
