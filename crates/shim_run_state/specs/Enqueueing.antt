-- What calls do to the queues and to the counts by number.
use Rattle.std.specs.Prelude.{◌≡◌, ◌<◌, ◌⊎◌, ℕ, ◌+◌, Bool, true, false, Option, Some, None, List, length, slice_get, slice_set}
use Rattle.shim_local.specs.Process.{Ops}
use Rattle.shim_records.specs.Pairs.{up_in}
use Rattle.shim_records.specs.Waiting.{Enqueues}
use Rattle.shim_records.specs.Ways.{IsAbove}
use Rattle.shim_laws_table_events.specs.keeping.Tables.{TableView}
use Rattle.shim_laws_table_events.specs.queues.EventQueue.{is_listed}
use Rattle.shim_laws_table_events.specs.queues.RecordDecisions.{HasNothingDue}
use Rattle.shim_process_table.specs.declared.queue.Queue.{Queue}
use Rattle.shim_process_table.specs.declared.queue.Queue.TheVariants as code
use Rattle.shim_run_state.specs.ProcessLists.{ProcessListsView}
use Rattle.shim_run_state.specs.RunStates.{IsQuietAt, QuietAreListed}

-- the number is put into this queue, or into none; no other flag has changed
abbrev pub IsPutIn : Queue → ℕ → List Bool → List Bool → List Bool → List Bool → Type 0
IsPutIn code.Neither number event_queue ready_queue event_queues ready_queues = (event_queues ≡ event_queue) × (ready_queues ≡ ready_queue)
IsPutIn code.Ready number event_queue ready_queue event_queues ready_queues = (event_queues ≡ event_queue) × Enqueues number ready_queue ready_queues
IsPutIn code.Event number event_queue ready_queue event_queues ready_queues = Enqueues number event_queue event_queues × (ready_queues ≡ ready_queue)

-- What was listed is, and so are the first n forks above this number. The number itself is, unless nothing but a quiet step can happen there; it may be even then. Nothing else is.
pub record ListsInEventQueue {S : Type 0} (o : Ops S) (v : TableView S) (n number : ℕ) (old new : List Bool) : Type 0 where
  pub kept : (i : ℕ) → is_listed old i ≡ true → is_listed new i ≡ true
  pub mine : (is_listed new number ≡ true) ⊎ HasNothingDue o v number
  pub above : (i : ℕ) → IsAbove (up_in v.records) n number i → is_listed new i ≡ true
  pub only : (i : ℕ) → is_listed new i ≡ true → (is_listed old i ≡ true) ⊎ ((i ≡ number) ⊎ IsAbove (up_in v.records) n number i)
  pub as_many : length new ≡ length old

-- What was listed is, and so is this number, if its process is before a quiet step; it may be even if not. Nothing else is.
pub record ListsInReadyQueue {S : Type 0} (o : Ops S) (v : TableView S) (number : ℕ) (old new : List Bool) : Type 0 where
  pub kept : (i : ℕ) → is_listed old i ≡ true → is_listed new i ≡ true
  pub mine : (l : S) → IsQuietAt o v number l → is_listed new number ≡ true
  pub only : (i : ℕ) → is_listed new i ≡ true → (is_listed old i ≡ true) ⊎ (i ≡ number)
  pub as_many : length new ≡ length old

-- the count of this number is so much greater now
pub record HasCounted (number n : ℕ) (old new : List ℕ) : Type 0 where
  pub count : ℕ
  pub there : slice_get old number ≡ Some count
  pub is : new ≡ slice_set old number (count + n)

-- if each process before a quiet step was listed or checked out, each still is
pub record KeepsQuietListed {S : Type 0} (o : Ops S) (v : TableView S) (checked_out old new : List Bool) : Type 0 where
  pub kept : QuietAreListed o v old checked_out → QuietAreListed o v new checked_out
  pub as_many : length new ≡ length old

-- the process with this number is before a quiet step, and isn't checked out; or no number is listed
abbrev pub IsListedHome : {S : Type 0} → Ops S → TableView S → List Bool → List Bool → Option ℕ → Type 0
IsListedHome o v checked_out ready_queue None = (i : ℕ) → is_listed ready_queue i ≡ false
IsListedHome {S} o v checked_out ready_queue (Some number) = (l : S) × IsQuietAt o v number l × (is_listed checked_out number ≡ false)

-- ---- both queues together

-- The process with this number has changed, and more may be due at the first n forks above it: these are put into the event queue, and the process into the queue in which it belongs. Who is checked out stays so.
pub record Requeues {S : Type 0} (o : Ops S) (v : TableView S) (n number : ℕ) (before after : ProcessListsView) : Type 0 where
  pub event_queue : ListsInEventQueue o v n number before.event_queue after.event_queue
  pub ready_queue : ListsInReadyQueue o v number before.ready_queue after.ready_queue
  pub checked_out : after.checked_out ≡ before.checked_out
  pub within : number < length after.event_queue

-- the flag that says whether the process with this number is checked out is this one, and nothing else has changed
pub record SetsCheckedOut (number : ℕ) (flag : Bool) (before after : ProcessListsView) : Type 0 where
  pub is : after ≡ record { own = before.own; event_queue = before.event_queue; ready_queue = before.ready_queue; checked_out = slice_set before.checked_out number flag }
  pub within : number < length before.checked_out

-- nothing but the event queue has changed
abbrev pub IsButEventQueue : ProcessListsView → ProcessListsView → Type 0
IsButEventQueue before after = after ≡ record { own = before.own; event_queue = after.event_queue; ready_queue = before.ready_queue; checked_out = before.checked_out }

-- nothing but the ready queue has changed
abbrev pub IsButReadyQueue : ProcessListsView → ProcessListsView → Type 0
IsButReadyQueue before after = after ≡ record { own = before.own; event_queue = before.event_queue; ready_queue = after.ready_queue; checked_out = before.checked_out }
