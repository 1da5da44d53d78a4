-- A net may cross threads, where its processes may: a `search` for that goes down through too many fields.
use denote.RattleType.{RattleType}
use denote.Param.Send.{IsSend, recorded_send, sendable, struct_send}
use denote.Struct.Declared.{shape}
use Rattle.std.proofs.Crossing.{crosses}
use Rattle.shim_local.specs.declared.local.Local.{Ghosts}
use Rattle.shim_local.proofs.ended.Log.TheSendSync as logs
use Rattle.shim_run_log.proofs.histories.Histories.TheSendSync as histories
use Rattle.shim_process_table.proofs.process_table.ProcessTable.TheSendSync as tables
use Rattle.shim_process_table.proofs.descent.FoundProcesses.TheSendSync as sharers
use Rattle.shim_run_state.proofs.run_state.PastSteps.TheSendSync as past
use Rattle.shim_run_state.proofs.process_lists.ProcessLists.TheSendSync as process_lists
use Rattle.shim_run_state.specs.contracts.run_state.RunState as RunState
use Rattle.shim_run_state.specs.contracts.run_state.RunState.TheInside as tree
use Rattle.shim_run_log.proofs.entry.Entry.TheSendSync as entries
use Rattle.shim_net.proofs.open_grant.OpenGrant.TheSendSync as grants
use Rattle.shim_net.specs.contracts.net.Net as Net
use Rattle.shim_net.specs.contracts.net.Net.TheInside as net

module _ (T : RattleType) (g : Ghosts T.Denot) (s : IsSend T) where
  tree_fields_send : IsSend (tree.the_row T g)
  tree_fields_send = recorded_send (tree.the_field T g).row _ _ (tree.the_type T g).to_one (struct_send (shape (tree.the_type T g)) (
    search (sendable, crosses) depth 20,
    (
      tables.the_send T g s,
      (
        search (sendable, crosses) depth 20,
        (
          histories.the_send,
          (
            search (logs.the_send, sendable, crosses) depth 20,
            (
              process_lists.the_send,
              (
                search (past.the_send, sendable, crosses) depth 20,
                (
                  search sendable,
                  (
                    search sendable,
                    (
                      sharers.the_send,
                      tt,
                    ),
                  ),
                ),
              ),
            ),
          ),
        ),
      ),
    ),
  ))

  pub tree_send : IsSend (RunState.the_row T g)
  tree_send = let f = tree_fields_send in search sendable

  net_fields_send : IsSend (net.the_row T g)
  net_fields_send = recorded_send (net.the_field T g).row _ _ (net.the_type T g).to_one (struct_send (shape (net.the_type T g)) (
    search (sendable, crosses) depth 20,
    (search sendable, (tree_send, (search (entries.the_send, sendable, crosses) depth 20, (let o = grants.the_send T g s in search (sendable, crosses) depth 20, (search sendable, tt))))),
  ))

  pub net_send : IsSend (Net.the_row T g)
  net_send = let f = net_fields_send in search sendable
