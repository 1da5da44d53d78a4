-- A list may cross threads where its values may.
use denote.RattleType.{RattleType}
use denote.Param.Send.{IsSend, sendable}
use Rattle.std.proofs.Crossing.{crosses}
use Rattle.shim_base.specs.contracts.list.List as List

pub list_send : (T : RattleType) → IsSend T → IsSend (List.the_row T)
list_send T s = search (sendable, crosses) depth 20
