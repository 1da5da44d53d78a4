-- What can happen at a record, by its state, by what it says itself, and by its children.
use Rattle.std.specs.Prelude.{◌≡◌, ◌≢◌, ◌<◌, ℕ, ◌+◌, Bool, true, false, Option, Some, slice_get}
use Rattle.shim_base.specs.Paths.{Path, Channel, NamedChannel}
use Rattle.shim_local.specs.Process.{Ops, AtQuiet, AtNext}
use Rattle.shim_semantics.specs.Nodes.{Death, is_next}
use Rattle.shim_semantics.specs.Trees.{Tree, Event, Own, Meet, Poison, Close, End, Steps, Ends, own_action_at}
use Rattle.shim_laws_table.specs.NodeStatus.{ProcessStatus, lives, forks, ends, dies}
use Rattle.shim_laws_table.specs.Counts.{Tally, tally_ready}
use Rattle.shim_laws_table.specs.Dooms.{is_below}
use Rattle.shim_laws_table.specs.Enabled.{Can}
use Rattle.shim_records.specs.Pairs.{tally, counts_in, counts_ready}
use Rattle.shim_records.specs.declared.pair.Pair.{Pair}
use Rattle.shim_records.specs.declared.record.Record.{Record}
use Rattle.shim_laws_table_events.specs.keeping.Tables.{TableView, HasProcessState, TableInvariant}
use Rattle.shim_laws_table_events.specs.queues.Requeueing.{IsAtNumber}

-- a process with this state and status is ready on the channel, for which its record has these counts
abbrev pub ready_by : {S : Type 0} → Ops S → Channel → S → ProcessStatus → Option Tally → Bool
ready_by o c s lives y = is_next (o.stop s) c
ready_by o c s (forks n) y = counts_ready y
ready_by o c s ends y = false
ready_by o c s (dies d) y = false

-- the process with this number, which has this state and status, is ready on the channel
abbrev pub IsReady : {S : Type 0} → Ops S → TableView S → Channel → ℕ → S → ProcessStatus → Type 0
IsReady o v c j s k = ready_by o c s k (counts_in c v.records j) ≡ true

-- By the record with this number this event can happen there; it may be a quiet step:
pub data CanHappenAt {S : Type 0} (o : Ops S) (v : TableView S) (i : ℕ) : Event → Type 0 where
  -- its process lives, and is before a step of its own, at its end, or at a channel that it declared
  to_step : (f : ℕ) (l : S) (p : Path) → HasProcessState v i f l lives → own_action_at (o.stop l) ≡ Steps → o.path l ≡ p → CanHappenAt o v i (Own p)
  to_end : (f : ℕ) (l : S) (p : Path) → HasProcessState v i f l lives → own_action_at (o.stop l) ≡ Ends → o.path l ≡ p → CanHappenAt o v i (End p)
  to_meet : (f : ℕ) (l : S) (d : NamedChannel) (c : Channel) → HasProcessState v i f l lives → o.stop l ≡ AtNext d → d.channel ≡ c → o.path l ≡ c.home → CanHappenAt o v i (Meet c)
  -- it has forked, and none of its children goes on
  to_close : (f n : ℕ) (l : S) (r : Record) (p : Path) → HasProcessState v i f l (forks n) → slice_get v.records i ≡ Some r → r.going_children ≡ 0 → o.path l ≡ p → CanHappenAt o v i (Close p)
  -- by the pair of a channel that it declared, it is ready on that
  to_meet_below : (f n q : ℕ) (l : S) (r : Record) (y : Pair) (c : Channel) → HasProcessState v i f l (forks n) → slice_get v.records i ≡ Some r → slice_get r.pairs.items q ≡ Some y → y.chan.channel ≡ c → o.path l ≡ c.home
      → tally_ready (tally y) ≡ true → CanHappenAt o v i (Meet c)
  -- the label of a pair is below its handlers, and a child is ready on the channel
  to_poison : (g n q b f : ℕ) (l k : S) (x : ProcessStatus) (r : Record) (y : Pair) (p : Path) (c : Channel) → HasProcessState v i g l (forks n) → slice_get v.records i ≡ Some r → slice_get r.pairs.items q ≡ Some y → y.chan.channel ≡ c
      → is_below y.min_dead_label (o.handlers l) ≡ true → b < n → HasProcessState v (g + b) f k x → IsReady o v c (g + b) k x → o.path k ≡ p → CanHappenAt o v i (Poison p c)

-- by the pair nothing can happen at the fork of this process, whose n children have the numbers from g on
pub record HasNoPairDue {S : Type 0} (o : Ops S) (v : TableView S) (l : S) (g n : ℕ) (y : Pair) : Type 0 where
  pub meets_not : o.path l ≡ y.chan.channel.home → tally_ready (tally y) ≡ false
  pub poisons_not : is_below y.min_dead_label (o.handlers l) ≡ true → (b f : ℕ) (k : S) (x : ProcessStatus) → b < n → HasProcessState v (g + b) f k x → IsReady o v y.chan.channel (g + b) k x → ⊥

-- By the record with this number nothing but a quiet step can happen there:
pub data HasNothingDue {S : Type 0} (o : Ops S) (v : TableView S) (i : ℕ) : Type 0 where
  -- it isn't in use
  unused : ((f : ℕ) (s : S) (k : ProcessStatus) → HasProcessState v i f s k → ⊥) → HasNothingDue o v i
  -- its process has ended or died
  has_ended : (f : ℕ) (l : S) → HasProcessState v i f l ends → HasNothingDue o v i
  has_died : (f : ℕ) (l : S) (d : Death) → HasProcessState v i f l (dies d) → HasNothingDue o v i
  -- it lives, and is before a quiet step, or at a channel that another process declared
  is_quiet : (f : ℕ) (l : S) → HasProcessState v i f l lives → o.stop l ≡ AtQuiet → HasNothingDue o v i
  waits : (f : ℕ) (l : S) (d : NamedChannel) → HasProcessState v i f l lives → o.stop l ≡ AtNext d → o.path l ≢ d.channel.home → HasNothingDue o v i
  -- it has forked, a child goes on, and by each pair nothing can happen
  is_open : (g n : ℕ) (l : S) (r : Record) → HasProcessState v i g l (forks n) → slice_get v.records i ≡ Some r → r.going_children ≢ 0 → ((q : ℕ) (y : Pair) → slice_get r.pairs.items q ≡ Some y → HasNoPairDue o v l g n y) → HasNothingDue o v i

-- the event is a quiet step of the process with this number
pub record IsQuietStepAt {S : Type 0} (o : Ops S) (v : TableView S) (i : ℕ) (e : Event) : Type 0 where
  pub first : ℕ
  pub process : S
  pub has : HasProcessState v i first process lives
  pub stop_is : o.stop process ≡ AtQuiet
  pub is : e ≡ Own (o.path process)

-- Where the table invariant holds, what one record decides:
pub record RecordDecides {S : Type 0} (o : Ops S) : Type 0 where
  -- what can happen by it is enabled, and is looked for there
  pub can : (rp : Path) (v : TableView S) (t : Tree S) (e : Event) (i : ℕ) → TableInvariant o rp v t.root → CanHappenAt o v i e → Can o t e × IsAtNumber o v e i
  -- what is enabled and is looked for there can happen by it
  pub found : (rp : Path) (v : TableView S) (t : Tree S) (e : Event) (i : ℕ) → TableInvariant o rp v t.root → Can o t e → IsAtNumber o v e i → CanHappenAt o v i e
  -- so where nothing but a quiet step can happen by it, nothing else is enabled there
  pub idle : (rp : Path) (v : TableView S) (t : Tree S) (e : Event) (i : ℕ) → TableInvariant o rp v t.root → HasNothingDue o v i → Can o t e → IsAtNumber o v e i → IsQuietStepAt o v i e
