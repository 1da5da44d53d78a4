-- What the scheduler keeps of each process, by its number.
use Rattle.std.specs.Prelude.{◌≤◌, ℕ, Bool, List, length}
use Rattle.shim_laws_table_events.specs.keeping.Tables.{TableView}
use Rattle.shim_process_table.specs.Lookups.{IsForAll}

-- what contracts see of it
pub record ProcessListsView : Type 0 where
  -- how many steps of its own the process did
  pub own : List ℕ
  -- whether something but a quiet step may happen there, whether it may be before a quiet step, and whether it is checked out
  pub event_queue : List Bool
  pub ready_queue : List Bool
  pub checked_out : List Bool

-- no list of flags is shorter than that of the counts
pub record FlagsReachAll (s : ProcessListsView) : Type 0 where
  pub event_queue : length s.own ≤ length s.event_queue
  pub ready_queue : length s.own ≤ length s.ready_queue
  pub checked_out : length s.own ≤ length s.checked_out

-- each process has its count in the lists
abbrev pub Serves : {S : Type 0} → TableView S → ProcessListsView → Type 0
Serves v s = IsForAll v s.own
