-- What calls put into the queues for several numbers.
use Rattle.std.specs.Prelude.{◌≡◌, ◌<◌, ◌⊎◌, ℕ, ◌+◌, Bool, true, List, length}
use Rattle.shim_local.specs.Process.{Ops}
use Rattle.shim_records.specs.Members.{IsAmong}
use Rattle.shim_records.specs.Pairs.{up_in}
use Rattle.shim_records.specs.Ways.{IsAbove, most_forks}
use Rattle.shim_laws_table_events.specs.keeping.Tables.{TableView}
use Rattle.shim_laws_table_events.specs.queues.EventQueue.{is_listed}
use Rattle.shim_laws_table_events.specs.queues.RecordDecisions.{HasNothingDue}
use Rattle.shim_run_state.specs.ProcessLists.{ProcessListsView}
use Rattle.shim_run_state.specs.RunStates.{IsQuietAt}

-- the number is one of these, or that of a fork above one of them
abbrev pub IsOneOrAbove : {S : Type 0} → TableView S → List ℕ → ℕ → Type 0
IsOneOrAbove {S} v numbers i = (m : ℕ) × IsAmong m numbers × ((i ≡ m) ⊎ IsAbove (up_in v.records) (most_forks + 1) m i)

-- What was listed is, and so are those of these numbers at which more than a quiet step may happen, and all forks above each; nothing else is, but perhaps others of these numbers.
pub record ListsEach {S : Type 0} (o : Ops S) (v : TableView S) (numbers : List ℕ) (old new : List Bool) : Type 0 where
  pub kept : (i : ℕ) → is_listed old i ≡ true → is_listed new i ≡ true
  pub mine : (m : ℕ) → IsAmong m numbers → (is_listed new m ≡ true) ⊎ HasNothingDue o v m
  pub above : (m i : ℕ) → IsAmong m numbers → IsAbove (up_in v.records) (most_forks + 1) m i → is_listed new i ≡ true
  pub only : (i : ℕ) → is_listed new i ≡ true → (is_listed old i ≡ true) ⊎ IsOneOrAbove v numbers i
  pub as_many : length new ≡ length old

-- What was listed is, and so is each of these numbers whose process is before a quiet step; nothing else is, but perhaps others of these numbers.
pub record ListsEachQuiet {S : Type 0} (o : Ops S) (v : TableView S) (numbers : List ℕ) (old new : List Bool) : Type 0 where
  pub kept : (i : ℕ) → is_listed old i ≡ true → is_listed new i ≡ true
  pub mine : (m : ℕ) (l : S) → IsAmong m numbers → IsQuietAt o v m l → is_listed new m ≡ true
  pub only : (i : ℕ) → is_listed new i ≡ true → (is_listed old i ≡ true) ⊎ IsAmong i numbers
  pub as_many : length new ≡ length old

-- For these numbers both queues have changed as `ListsEach` and `ListsEachQuiet` define. Counts and checked out flags are as before.
pub record RequeuesEach {S : Type 0} (o : Ops S) (v : TableView S) (numbers : List ℕ) (before after : ProcessListsView) : Type 0 where
  pub own : after.own ≡ before.own
  pub event_queue : ListsEach o v numbers before.event_queue after.event_queue
  pub ready_queue : ListsEachQuiet o v numbers before.ready_queue after.ready_queue
  pub checked_out : after.checked_out ≡ before.checked_out
  pub within : (m : ℕ) → IsAmong m numbers → m < length after.event_queue
