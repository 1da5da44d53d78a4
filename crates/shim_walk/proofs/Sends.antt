-- A process may cross threads: what it owns are numbers and lists, and what it shares by `Arc` says the same to every thread.
use denote.Builtin.{u8}
use denote.Param.Send.{IsSend, IsSync, recorded_send, sendable, struct_send}
use denote.Struct.Declared.{shape}
use Rattle.std.proofs.Crossing.{Arc-send}
use Rattle.shim_base.proofs.chan.Chan.TheSendSync as channels
use Rattle.shim_base.proofs.path.Path.TheSendSync as paths
use Rattle.shim_base.specs.contracts.chan.Chan as Chan
use Rattle.shim_base.specs.contracts.list.List as List
use Rattle.shim_base.specs.contracts.path.Path as Path
use Rattle.shim_base.specs.contracts.shared.Shared as Shared
use Rattle.shim_units.proofs.Sends.{accepted_send, accepted_sync, list_send, list_sync, shared_send}
use Rattle.shim_units.specs.contracts.accepted.Accepted as Accepted
use Rattle.shim_walk_frames.proofs.frame.Frame.TheSendSync as frames
use Rattle.shim_walk_frames.proofs.call_stack.CallStack.TheSendSync as callers
use Rattle.shim_locations.proofs.locations.Locations.TheSendSync as locations
use Rattle.shim_locations.proofs.serial_runs.SerialRuns.TheSendSync as runs
use Rattle.shim_walk.specs.contracts.process.Process as Process
use Rattle.shim_walk.specs.contracts.process.Process.TheInside as inside
use Rattle.shim_walk.specs.contracts.walk.Walk as Walk

channels_send : IsSend (List.the_row Chan.the_row)
channels_send = list_send Chan.the_row channels.the_send

program_send : IsSend (Shared.the_row Accepted.the_row)
program_send = shared_send Accepted.the_row accepted_send accepted_sync

bytes_send : IsSend (List.the_row u8)
bytes_send = search (list_send, sendable) depth 20

bytes_sync : IsSync (List.the_row u8)
bytes_sync = search (list_sync, sendable) depth 20

input_send : IsSend (Shared.the_row (List.the_row u8))
input_send = shared_send (List.the_row u8) bytes_send bytes_sync

fields_send : IsSend inside.the_row
fields_send = recorded_send (inside.the_field).row _ _ (inside.the_type).to_one (struct_send (shape inside.the_type) (
  Arc-send Path.the_row paths.the_send paths.the_sync,
  (
    search sendable,
    (
      search sendable,
      (
        search sendable,
        (
          runs.the_send,
          (
            channels_send,
            (
              frames.the_send,
              (
                callers.the_send,
                (
                  locations.the_send,
                  (
                    search sendable depth 20,
                    (search sendable, (search sendable depth 20, (program_send, (input_send, tt)))),
                  ),
                ),
              ),
            ),
          ),
        ),
      ),
    ),
  ),
))

pub process_send : IsSend Process.the_row
process_send = let s = fields_send in search sendable

pub walk_send : IsSend Walk.the_row
walk_send = let s = process_send in search sendable depth 20
