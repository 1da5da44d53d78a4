-- A rendezvous done one process after the other, from the numbers of those that share the channel.
use Rattle.std.specs.Prelude.{◌≡◌, ℕ, ℤ, false, List, [], ◌∷◌, slice_set}
use Rattle.shim_base.specs.Paths.{Path, Channel, NamedChannel}
use Rattle.shim_local.specs.Process.{Ops, AtNext}
use Rattle.shim_semantics.specs.Nodes.{Node, is_next, source, value_of}
use Rattle.shim_semantics.specs.Trees.{Tree, Event, Meet}
use Rattle.shim_laws_table.specs.NodeStatus.{ProcessStatus, lives}
use Rattle.shim_laws_table.specs.Changes.{HaveReceived}
use Rattle.shim_laws_table.specs.Enabled.{Can}
use Rattle.shim_laws_table_events.specs.keeping.Tables.{TableView, views, HasProcessState, TableInvariant}
use Rattle.shim_laws_table_events.specs.keeping.Moves.{Performs}
use Rattle.shim_laws_table_events.specs.meetings.Receiving.{MovesOn}
use Rattle.shim_laws_table_events.specs.meetings.Sharers.{ListsSharers, ListsReceivers}

-- the process with this number has received the value, if it lives and is at the channel
pub data ReceivesOne {S : Type 0} (o : Ops S) (c : Channel) (v : ℤ) (i : ℕ) (before after : TableView S) : Type 0 where
  not_at_channel : ((f : ℕ) (l : S) → HasProcessState before i f l lives → is_next (o.stop l) c ≡ false) → after ≡ before → ReceivesOne o c v i before after
  received : (f : ℕ) (l : S) (d : NamedChannel) → HasProcessState before i f l lives → o.stop l ≡ AtNext d → d.channel ≡ c → after.states ≡ slice_set before.states i (o.receive l v)
      → MovesOn o (o.receive l v) d.channel 4294967295 i before.records after.records → ReceivesOne o c v i before after

-- `ReceivesOne` holds for each of these numbers, one after the other
pub data ReceiveAll {S : Type 0} (o : Ops S) (c : Channel) (v : ℤ) : List ℕ → TableView S → TableView S → Type 0 where
  none_left : (w : TableView S) → ReceiveAll o c v [] w w
  one_more : (i : ℕ) (is : List ℕ) (before between after : TableView S) → ReceivesOne o c v i before between → ReceiveAll o c v is between after → ReceiveAll o c v (i ∷ is) before after

-- in each tree for which the table invariant holds the event is enabled
abbrev pub IsEnabled : {S : Type 0} → Ops S → Event → TableView S → Type 0
IsEnabled {S} o e v = (rp : Path) (t : Tree S) → TableInvariant o rp v t.root → Can o t e

-- the process with this number declared the channel
pub record Declares {S : Type 0} (o : Ops S) (v : TableView S) (i : ℕ) (c : Channel) : Type 0 where
  pub first : ℕ
  pub state : S
  pub status : ProcessStatus
  pub has : HasProcessState v i first state status
  pub its : o.path state ≡ c.home

-- the channel's source has this value, or there is none and it is 0
abbrev pub HasValue : {S : Type 0} → Ops S → TableView S → Channel → ℤ → Type 0
HasValue {S} o v c x = (rp : Path) (root : Node S) → TableInvariant o rp v root → x ≡ value_of o c (source o c root)

-- each live process that was at the channel has received the value, and no other state and no status has changed
abbrev pub AllReceived : {S : Type 0} → Ops S → Channel → ℤ → TableView S → TableView S → Type 0
AllReceived {S} o c x before after = (rp : Path) (root : Node S) → TableInvariant o rp before root → (views after ≡ views before) × HaveReceived o c x (views before) before.states after.states

-- Where a rendezvous is enabled, and all that are at the channel receive the value of its source one after the other, the tree moves by the rendezvous.
abbrev pub MeetingPreserves : {S : Type 0} → Ops S → Type 0
MeetingPreserves {S} o = (before after : TableView S) (c : Channel) (numbers : List ℕ) (x : ℤ) → IsEnabled o (Meet c) before → ListsReceivers o before c numbers → HasValue o before c x → ReceiveAll o c x numbers before after
    → Performs o (Meet c) before after × AllReceived o c x before after

-- Where a rendezvous is enabled, all that share the channel at and below its home include each live process that is at the channel, and none twice.
abbrev pub SharersReceive : {S : Type 0} → Ops S → Type 0
SharersReceive {S} o = (v : TableView S) (c : Channel) (i : ℕ) (numbers : List ℕ) → Declares o v i c → IsEnabled o (Meet c) v → ListsSharers o v c i numbers → ListsReceivers o v c numbers
