-- What can happen at a process, as the code returns it.
use Rattle.std.specs.Prelude.{◌≡◌, ◌<◌, ℕ, ◌+◌, Bool, true, false, Option, Some, None, List, map, slice_get}
use Rattle.shim_base.specs.Paths.{Channel, NamedChannel}
use Rattle.shim_local.specs.Process.{Ops, AtPut, AtFork, AtThrow, AtTrap, AtFinish, AtNext}
use Rattle.shim_laws_table.specs.NodeStatus.{ProcessStatus, lives}
use Rattle.shim_laws_table.specs.Agrees.{RecordView, used}
use Rattle.shim_laws_table.specs.Counts.{Tally, tally_ready}
use Rattle.shim_laws_table.specs.Dooms.{is_below}
use Rattle.shim_records.specs.Pairs.{tally, counts_in, record_view}
use Rattle.shim_records.specs.declared.pair.Pair.{Pair}
use Rattle.shim_records.specs.declared.record.Record.{Record}
use Rattle.shim_laws_table_events.specs.keeping.Tables.{TableView, HasProcessState}
use Rattle.shim_laws_table_events.specs.queues.RecordDecisions.{ready_by, HasNothingDue, IsReady}
use Rattle.shim_process_table.specs.Closing.{CanClose}
use Rattle.shim_process_table.specs.Lookups.{HasPair}
use Rattle.shim_process_table.specs.Stepping.{LivesAt}
use Rattle.shim_process_table.specs.declared.due.Due.{Due}
use Rattle.shim_process_table.specs.declared.due.Due.TheVariants as code

-- the process with the number i lives, and waits at a channel that it declared
pub record MeetsAlone {S : Type 0} (o : Ops S) (v : TableView S) (i : ℕ) : Type 0 where
  pub first : ℕ
  pub process : S
  pub chan : NamedChannel
  pub has : HasProcessState v i first process lives
  pub stop_is : o.stop process ≡ AtNext chan
  pub declared : o.path process ≡ chan.channel.home

-- The process with the number i has forked, and declared the channel of its pair at the place q. By the counts of that pair it is ready on the channel.
pub record IsReadyToMeet {S : Type 0} (o : Ops S) (v : TableView S) (i q : ℕ) : Type 0 where
  pub first : ℕ
  pub many : ℕ
  pub process : S
  pub pair_is : Pair
  pub has : HasPair v i first many process q pair_is
  pub declared : o.path process ≡ pair_is.chan.channel.home
  pub all : tally_ready (tally pair_is) ≡ true

-- The process with the number i has forked. The label of its pair at the place q is below the number of exception places in force at it (`handlers`). Its child with the number j is ready on the channel of that pair.
pub record IsDoomed {S : Type 0} (o : Ops S) (v : TableView S) (i q j : ℕ) : Type 0 where
  pub first : ℕ
  pub many : ℕ
  pub process : S
  pub pair_is : Pair
  pub has : HasPair v i first many process q pair_is
  pub dooms : is_below pair_is.min_dead_label (o.handlers process) ≡ true
  pub branch : ℕ
  pub within : branch < many
  pub number : j ≡ first + branch
  pub child_first : ℕ
  pub child : S
  pub child_status : ProcessStatus
  pub its : HasProcessState v j child_first child child_status
  pub ready : IsReady o v pair_is.chan.channel j child child_status

-- what an answer says of the process with this number
abbrev pub DueIs : {S : Type 0} → Ops S → TableView S → ℕ → Due → Type 0
DueIs o v i code.Nothing = HasNothingDue o v i
DueIs o v i code.Put = LivesAt o v i AtPut
DueIs o v i code.Fork = LivesAt o v i AtFork
DueIs o v i (code.Throw label) = LivesAt o v i (AtThrow label)
DueIs o v i (code.Trap kind line) = LivesAt o v i (AtTrap kind line)
DueIs o v i code.Finish = LivesAt o v i AtFinish
DueIs o v i code.Close = CanClose v i
DueIs o v i code.MeetAlone = MeetsAlone o v i
DueIs o v i (code.Meet q) = IsReadyToMeet o v i q
DueIs o v i (code.Poison q j) = IsDoomed o v i q j

-- ---- the parts

-- whether a process with this state and view is ready on a channel for which its record has these counts
abbrev pub ready_record : {S : Type 0} → Ops S → Channel → Option S → Option RecordView → Option Tally → Bool
ready_record o c (Some s) (Some (used f k)) y = ready_by o c s k y
ready_record o c _ _ y = false

-- whether the process with this number is ready on the channel
abbrev pub ready_at : {S : Type 0} → Ops S → Channel → List S → List Record → ℕ → Bool
ready_at o c states rs i = ready_record o c (slice_get states i) (slice_get (map record_view rs) i) (counts_in c rs i)

-- Some: j is one of the n numbers from g on, and its process is ready on the channel. None: none of these n processes is ready on it.
abbrev pub ReadyAmong : {S : Type 0} → Ops S → Channel → List S → List Record → ℕ → ℕ → Option ℕ → Type 0
ReadyAmong o c states rs g n None = (b : ℕ) → b < n → ready_at o c states rs (g + b) ≡ false
ReadyAmong o c states rs g n (Some j) = (b : ℕ) × (b < n) × (j ≡ g + b) × (ready_at o c states rs j ≡ true)

-- A fork of a process with the state l has n children with the numbers from g on. Some: the label of the pair y dooms the child j, which is ready on the pair's channel. None: that label dooms no ready child.
abbrev pub DoomedAmong : {S : Type 0} → Ops S → List S → List Record → S → ℕ → ℕ → Pair → Option ℕ → Type 0
DoomedAmong o states rs l g n y None = is_below y.min_dead_label (o.handlers l) ≡ true → ReadyAmong o y.chan.channel states rs g n None
DoomedAmong o states rs l g n y (Some j) = (is_below y.min_dead_label (o.handlers l) ≡ true) × ReadyAmong o y.chan.channel states rs g n (Some j)
