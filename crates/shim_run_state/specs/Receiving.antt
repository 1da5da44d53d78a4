-- What a rendezvous leaves of processes, of the lists kept of them, and of the values that were met.
use Rattle.std.specs.Prelude.{◌≡◌, ℤ, unwrap_or}
use Rattle.std.specs.FinMap as finite
use Rattle.shim_base.specs.Paths.{Path, Channel, channel_order}
use Rattle.shim_local.specs.Process.{Ops}
use Rattle.shim_semantics.specs.Nodes.{Node, first_name}
use Rattle.shim_semantics.specs.Trees.{Met, recorded}
use Rattle.shim_laws_table_events.specs.keeping.Tables.{TableView, TableInvariant}
use Rattle.shim_run_state.specs.ProcessLists.{ProcessListsView, Serves}
use Rattle.shim_run_state.specs.RunStates.{RunStateView, RunStateInvariant}

-- the run state w with this table and these lists in place of its own
abbrev pub with_table : {S : Type 0} → RunStateView S → TableView S → ProcessListsView → RunStateView S
with_table w v s = record { begun = w.begun; table = v; output = w.output; histories = w.histories; logs = w.logs; process_lists = s; past = w.past; events = w.events }

-- Counts and checked out flags are the same. If the old lists had a count for each process, the new ones have. If a run state with the old table and lists kept its invariant, it keeps it with the new ones.
pub record PassesOn {S : Type 0} (o : Ops S) (before : TableView S) (s : ProcessListsView) (after : TableView S) (t : ProcessListsView) : Type 0 where
  pub own : t.own ≡ s.own
  pub checked_out : t.checked_out ≡ s.checked_out
  pub serves : Serves before s → Serves after t
  pub keeps : (w : RunStateView S) → RunStateInvariant o (with_table w before s) → RunStateInvariant o (with_table w after t)

-- If the table invariant holds for a tree, the value x was added to the history of the channel c. If c had none, the new one has the name that the first live process at c in that tree has for it. If no process is at c, the name is 0.
abbrev pub RecordsValue : {S : Type 0} → Ops S → TableView S → Channel → ℤ → finite.FinMap channel_order Met → finite.FinMap channel_order Met → Type 0
RecordsValue {S} o v c x old new = (rp : Path) (root : Node S) → TableInvariant o rp v root → new ≡ recorded old c (unwrap_or (first_name o c root) 0) x
