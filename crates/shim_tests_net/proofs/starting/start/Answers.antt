use denote.Param.Send.{sendable}
use Rattle.shim_tests_small.proofs.small.Small.TheSendSync as smalls
use Rattle.shim_net.proofs.Sends.{net_send}
use Rattle.shim_tests_net.proofs.starting.start.Goals as goal

pub handed_on-net-requires-send-T : goal.handed_on-net-requires-send-T
handed_on-net-requires-send-T c κs = search (net_send, smalls.the_send, sendable) depth 20
