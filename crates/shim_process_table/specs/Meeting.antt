-- Whether a process takes part in a rendezvous, and one that leaves the channel.
use Rattle.std.specs.Prelude.{◌≡◌, ℕ, ℤ, Bool, true, false, Option, Some, None, List}
use Rattle.shim_base.specs.Paths.{Channel, NamedChannel}
use Rattle.shim_local.specs.Process.{Ops, AtNext}
use Rattle.shim_semantics.specs.Nodes.{is_next}
use Rattle.shim_laws_table.specs.NodeStatus.{lives}
use Rattle.shim_laws_table.specs.Counts.{going_child_status}
use Rattle.shim_records.specs.Pairs.{child_status_of}
use Rattle.shim_records.specs.Ways.{IsUpdatedAbove}
use Rattle.shim_records.specs.declared.pair.ChildStatus.{ChildStatus}
use Rattle.shim_records.specs.declared.record.Record.{Record}
use Rattle.shim_laws_table_events.specs.keeping.Tables.{TableView, HasProcessState}
use Rattle.shim_process_table.specs.Queue.{QueueIs}
use Rattle.shim_process_table.specs.Stepping.{HasBecome}
use Rattle.shim_process_table.specs.Touching.{ReadiesAbove}
use Rattle.shim_process_table.specs.declared.propagating.Requeue.{Requeue}

-- whether the process with this number lives and is at a `next` of the channel
abbrev pub WaitsAt : {S : Type 0} → Ops S → Channel → ℕ → TableView S → Bool → Type 0
WaitsAt {S} o c i v true = (f : ℕ) × (l : S) × (d : NamedChannel) × HasProcessState v i f l lives × (o.stop l ≡ AtNext d) × (d.channel ≡ c)
WaitsAt {S} o c i v false = (f : ℕ) (l : S) → HasProcessState v i f l lives → is_next (o.stop l) c ≡ false

-- a live process is at the channel no more: the counts above the record x were updated for it, through at most n forks
abbrev pub LeavesChannel : Channel → ℕ → ℕ → List Record → List Record → Type 0
LeavesChannel c n x before after = (was : ChildStatus) × (is : ChildStatus) × (child_status_of was ≡ going_child_status true) × (child_status_of is ≡ going_child_status false) × IsUpdatedAbove c n x was is before after

-- The process with this number lived, was at the channel and received the value there. No other process has changed. No record in use is readier than before but its own and those of the first forks above it, as many as `to_requeue` says. It belongs in the queue of `to_requeue` now.
pub record HasReceived {S : Type 0} (o : Ops S) (c : Channel) (x : ℤ) (number : ℕ) (to_requeue : Requeue) (before after : TableView S) : Type 0 where
  pub first : ℕ
  pub process : S
  pub chan : NamedChannel
  pub has : HasProcessState before number first process lives
  pub stop_was : o.stop process ≡ AtNext chan
  pub is_channel : chan.channel ≡ c
  pub becomes : HasBecome number (o.receive process x) lives before after
  pub newly_ready : ReadiesAbove o to_requeue.forks number before after
  pub queue : QueueIs o after number to_requeue.queue

-- Some: the process received the value and is to be put in this queue; None: it doesn't wait at the channel, and nothing has changed
abbrev pub ReceivesHere : {S : Type 0} → Ops S → Channel → ℤ → ℕ → Option Requeue → TableView S → TableView S → Type 0
ReceivesHere o c x number None before after = (after ≡ before) × WaitsAt o c number before false
ReceivesHere o c x number (Some to_requeue) before after = HasReceived o c x number to_requeue before after
