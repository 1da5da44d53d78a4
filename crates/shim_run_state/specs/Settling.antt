-- The next event that is no quiet step, by the event queue.
use Rattle.std.specs.Prelude.{◌≡◌, ◌≢◌, ℕ, Bool, false, Option, Some, None, List, [], length}
use Rattle.shim_local.specs.Process.{Ops}
use Rattle.shim_semantics.specs.Trees.{Tree}
use Rattle.shim_laws_table_events.specs.keeping.Tables.{TableView, TableInvariant}
use Rattle.shim_laws_table_events.specs.queues.EventQueue.{is_listed, AreListed}
use Rattle.shim_process_table.specs.Due.{DueIs}
use Rattle.shim_process_table.specs.declared.due.Due.{Due}
use Rattle.shim_process_table.specs.declared.due.Due.TheVariants as code
use Rattle.shim_run_state.specs.RunStates.{RunStateView, tree_in}
use Rattle.shim_run_state.specs.CheckingOut.{SameCheckedOut}

-- if the old list has each number at which an event other than a quiet step is enabled, the new one has them, too
pub record KeepsEventsListed {S : Type 0} (o : Ops S) (v : TableView S) (old new : List Bool) : Type 0 where
  pub kept : (t : Tree S) → TableInvariant o [] v t.root → AreListed o v t old → AreListed o v t new
  pub as_many : length new ≡ length old

-- this is due at the number; or no number is listed
abbrev pub IsNextDue : {S : Type 0} → Ops S → TableView S → List Bool → Option (ℕ × Due) → Type 0
IsNextDue o v event_queue None = (i : ℕ) → is_listed event_queue i ≡ false
IsNextDue o v event_queue (Some d) = DueIs o v d.0 d.1 × (d.1 ≢ code.Nothing)

-- nothing has happened, and who is checked out stays so
pub record StaysAs {S : Type 0} (o : Ops S) (before after : RunStateView S) : Type 0 where
  pub tree : tree_in o after ≡ tree_in o before
  pub checked_out : SameCheckedOut o before after
