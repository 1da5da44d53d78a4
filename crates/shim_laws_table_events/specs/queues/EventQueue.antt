-- A list of numbers at which events may be enabled, kept along what happens.
use Rattle.std.specs.Prelude.{◌≡◌, ◌≢◌, ◌⊎◌, ℕ, Bool, true, false, Option, Some, None, List, slice_get}
use Rattle.shim_base.specs.Paths.{Path}
use Rattle.shim_local.specs.Process.{Ops}
use Rattle.shim_semantics.specs.Trees.{Tree, Event}
use Rattle.shim_laws_table.specs.NodeStatus.{ProcessStatus}
use Rattle.shim_laws_table.specs.Enabled.{Can}
use Rattle.shim_laws_table_events.specs.keeping.Tables.{TableView, HasProcessState, TableInvariant}
use Rattle.shim_laws_table_events.specs.queues.Requeueing.{IsAtNumber}
use Rattle.shim_laws_table_events.specs.queues.RecordDecisions.{HasNothingDue, IsQuietStepAt}
use Rattle.shim_laws_table_events.specs.queues.NoMore.{AllowsNoMore}

-- the flag is there, and it is set
abbrev pub is_set : Option Bool → Bool
is_set None = false
is_set (Some b) = b

-- the number is listed by these flags
abbrev pub is_listed : List Bool → ℕ → Bool
is_listed flags i = is_set (slice_get flags i)

-- each event that can happen, and is no quiet step, is looked for at a listed number
abbrev pub AreListed : {S : Type 0} → Ops S → TableView S → Tree S → List Bool → Type 0
AreListed {S} o v t flags = (e : Event) (i : ℕ) → Can o t e → IsAtNumber o v e i → (IsQuietStepAt o v i e → ⊥) → is_listed flags i ≡ true

-- Which lists are such lists (`AreListed`):
pub record QueueStaysComplete {S : Type 0} (o : Ops S) : Type 0 where
  -- one that lists each record in use
  pub all : (v : TableView S) (t : Tree S) (flags : List Bool) → ((i f : ℕ) (s : S) (k : ProcessStatus) → HasProcessState v i f s k → is_listed flags i ≡ true) → AreListed o v t flags
  -- where something has happened, one that lists what such a list did, and each record by which more can happen than before
  pub moves : (rp : Path) (before after : TableView S) (t u : Tree S) (flags now : List Bool) → TableInvariant o rp before t.root → TableInvariant o rp after u.root → AreListed o before t flags
      → ((i : ℕ) → is_listed flags i ≡ true → is_listed now i ≡ true) → ((i f : ℕ) (s : S) (k : ProcessStatus) → HasProcessState after i f s k → (is_listed now i ≡ true) ⊎ AllowsNoMore o before after i) → AreListed o after u now
  -- such a list without a record by which nothing but a quiet step can happen
  pub drops : (rp : Path) (v : TableView S) (t : Tree S) (i : ℕ) (flags now : List Bool) → TableInvariant o rp v t.root → AreListed o v t flags → HasNothingDue o v i → ((j : ℕ) → j ≢ i → is_listed flags j ≡ true → is_listed now j ≡ true) → AreListed o v t now
  -- and where such a list lists nothing, only quiet steps are enabled
  pub settled : (rp : Path) (v : TableView S) (t : Tree S) (flags : List Bool) (e : Event) → TableInvariant o rp v t.root → AreListed o v t flags → ((i : ℕ) → is_listed flags i ≡ false) → Can o t e → (i : ℕ) × IsQuietStepAt o v i e
