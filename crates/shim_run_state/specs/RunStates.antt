-- A tree of processes kept as states and records, as contracts see it, and what its type keeps.
use Rattle.std.specs.Prelude.{◌≡◌, ◌≤◌, ◌⊎◌, ℕ, suc, Bool, true, Option, Some, None, List, [], ◌∷◌, ◌++◌, slice_get}
use Rattle.std.specs.FinMap as finite
use Rattle.shim_base.specs.Paths.{Path, path_order, channel_order}
use Rattle.shim_local.specs.Process.{Ops, AtQuiet}
use Rattle.shim_local.specs.declared.LogWhat.{LogWhat}
use Rattle.shim_semantics.specs.Nodes.{Node, Live}
use Rattle.shim_semantics.specs.Trees.{Tree, Met, steps}
use Rattle.shim_laws_table.specs.NodeStatus.{lives}
use Rattle.shim_laws_table.specs.RepresentedTree.{represented_tree}
use Rattle.shim_laws_table.specs.Agrees.{RecordView, used}
use Rattle.shim_laws_table_events.specs.keeping.Tables.{TableView, HasProcessState, TableInvariant, views}
use Rattle.shim_laws_table_events.specs.queues.EventQueue.{is_listed, AreListed}
use Rattle.shim_run_log.specs.Counted.{StepCount, counted}
use Rattle.shim_run_state.specs.ProcessLists.{ProcessListsView, Serves}

-- what contracts see of a tree of processes kept as states and records
pub record RunStateView (S : Type 0) : Type 0 where
  -- the process with which it began
  pub begun : S
  pub table : TableView S
  pub output : List ℕ
  pub histories : finite.FinMap channel_order Met
  pub logs : finite.FinMap path_order (List LogWhat)
  -- what the scheduler keeps of each process
  pub process_lists : ProcessListsView
  -- how many steps of its own each process did that is gone, because the fork that made it has closed
  pub past : List StepCount
  -- how many events were no process's own step
  pub events : ℕ

-- the path of the process of a record, if the record is in use
abbrev pub path_by : {S : Type 0} → Ops S → Option S → Option RecordView → Option Path
path_by o (Some s) (Some (used f k)) = Some (o.path s)
path_by o _ _ = None

-- the path of the process of the record with this number, if that is in use
abbrev pub path_at : {S : Type 0} → Ops S → TableView S → ℕ → Option Path
path_at o v i = path_by o (slice_get v.states i) (slice_get (views v) i)

-- this count, if there is a path to count it for
abbrev pub entry : Option Path → ℕ → List StepCount
entry None n = []
entry (Some p) n = record { path = p; count = n } ∷ []

-- the counts of the processes that have a record, by the paths of numbers
abbrev pub counts_from : (ℕ → Option Path) → List ℕ → List StepCount
counts_from paths [] = []
counts_from paths (n ∷ ns) = entry (paths 0) n ++ counts_from (λ i. paths (suc i)) ns

-- the node; that of the first process where records show no tree, which the type excludes
abbrev pub or_begun : {S : Type 0} → S → Option (Node S) → Node S
or_begun l None = Live l
or_begun l (Some n) = n

-- the tree that a run state represents
abbrev pub tree_in : {S : Type 0} → Ops S → RunStateView S → Tree S
tree_in o v = record { root = or_begun v.begun (represented_tree o v.table.states (views v.table)); output = v.output; histories = v.histories; logs = v.logs; counts = counted (counts_from (path_at o v.table) v.process_lists.own ++ v.past); events = v.events }

-- the process with this number lives, and is before a quiet step
pub record IsQuietAt {S : Type 0} (o : Ops S) (v : TableView S) (i : ℕ) (l : S) : Type 0 where
  pub first : ℕ
  pub has : HasProcessState v i first l lives
  pub stop_is : o.stop l ≡ AtQuiet

-- the process with this number is before a quiet step, and is checked out
pub record IsCheckedOut {S : Type 0} (o : Ops S) (v : RunStateView S) (i : ℕ) (l : S) : Type 0 where
  pub at_quiet : IsQuietAt o v.table i l
  pub flag : is_listed v.process_lists.checked_out i ≡ true

-- whoever is before a quiet step is listed or checked out
abbrev pub QuietAreListed : {S : Type 0} → Ops S → TableView S → List Bool → List Bool → Type 0
QuietAreListed {S} o v ready_queue checked_out = (i : ℕ) (l : S) → IsQuietAt o v i l → (is_listed ready_queue i ≡ true) ⊎ (is_listed checked_out i ≡ true)

-- The records represent the tree. The event queue has the number at which each enabled event that is no quiet step is looked for. Each process before a quiet step is in the ready queue or checked out. Each checked out process is before a quiet step. The tree has at most 4,000,000 steps.
pub record RunStateInvariant {S : Type 0} (o : Ops S) (v : RunStateView S) : Type 0 where
  pub represents : TableInvariant o [] v.table (tree_in o v).root
  pub event_queue : AreListed o v.table (tree_in o v) v.process_lists.event_queue
  pub ready_queue : QuietAreListed o v.table v.process_lists.ready_queue v.process_lists.checked_out
  pub checked_out : (i : ℕ) → is_listed v.process_lists.checked_out i ≡ true → (l : S) × IsQuietAt o v.table i l
  pub serves : Serves v.table v.process_lists
  pub few : steps (tree_in o v) ≤ 4000000

-- what its type keeps, with how many events the code has counted
abbrev pub CountedInvariant : {S : Type 0} → Ops S → RunStateView S → ℕ → Type 0
CountedInvariant o v taken = RunStateInvariant o v × (taken ≡ steps (tree_in o v))
