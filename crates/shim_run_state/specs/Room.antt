-- Room for more numbers, and blocks of numbers that come into use.
use Rattle.std.specs.Prelude.{◌≡◌, ◌≤◌, ◌+◌, ◌++◌, ℕ, true, false, List, length, replicate}
use Rattle.shim_records.specs.Blocks.{with_block}
use Rattle.shim_records.specs.Waiting.{AreGrown}
use Rattle.shim_process_table.specs.declared.forking.ForkOutcome.{ForkOutcome}
use Rattle.shim_process_table.specs.declared.forking.ForkOutcome.TheVariants as outcome
use Rattle.shim_run_state.specs.ProcessLists.{ProcessListsView}
use Rattle.shim_run_state.specs.RunStates.{RunStateView}

-- so many more are there, each of which is this
abbrev pub IsLonger : {A : Type 0} → A → List A → List A → Type 0
IsLonger {A} x old new = (more : ℕ) × (new ≡ old ++ replicate more x)

-- there is room for more numbers, and nothing else has changed
pub record IsRoomier (before after : ProcessListsView) : Type 0 where
  pub own : IsLonger 0 before.own after.own
  pub event_queue : AreGrown before.event_queue after.event_queue
  pub ready_queue : AreGrown before.ready_queue after.ready_queue
  pub checked_out : IsLonger false before.checked_out after.checked_out

-- the lists of a run state have more room, and nothing else of it has changed
pub record HasMoreRoom {S : Type 0} (before after : RunStateView S) : Type 0 where
  pub begun : after.begun ≡ before.begun
  pub table : after.table ≡ before.table
  pub output : after.output ≡ before.output
  pub histories : after.histories ≡ before.histories
  pub logs : after.logs ≡ before.logs
  pub process_lists : IsRoomier before.process_lists after.process_lists
  pub past : after.past ≡ before.past
  pub events : after.events ≡ before.events

-- there is room for all numbers below this one
abbrev pub HasRoomFor : ℕ → ProcessListsView → Type 0
HasRoomFor end s = end ≤ length s.own

-- So many children have come, with the numbers from `first` on. Their counts are 0, and they are in both queues. Checked out flags are as before.
pub record HasNewChildren (first count : ℕ) (before after : ProcessListsView) : Type 0 where
  pub own : after.own ≡ with_block first (replicate count 0) before.own
  pub event_queue : after.event_queue ≡ with_block first (replicate count true) before.event_queue
  pub ready_queue : after.ready_queue ≡ with_block first (replicate count true) before.ready_queue
  pub checked_out : after.checked_out ≡ before.checked_out
  pub within : first + count ≤ length before.own
  pub listed : first + count ≤ length before.event_queue
  pub listed_quiet : first + count ≤ length before.ready_queue

-- the number of the first child of a fork with this outcome, and how many children there are; both are 0 if it trapped
abbrev pub block_of : ForkOutcome → ℕ × ℕ
block_of (outcome.Forked first count) = (first, count)
block_of outcome.Trapped = (0, 0)
