-- Records by which no more can happen than before.
use Rattle.std.specs.Prelude.{◌≡◌, ◌≢◌, ℕ, true, false, Bool, Some, None, slice_get}
use Rattle.std.specs.Option.{option_map}
use Rattle.shim_base.specs.Paths.{Path, Channel}
use Rattle.shim_local.specs.Process.{Ops}
use Rattle.shim_semantics.specs.Nodes.{Node}
use Rattle.shim_semantics.specs.Trees.{Event}
use Rattle.shim_laws_table.specs.NodeStatus.{ProcessStatus}
use Rattle.shim_records.specs.Pairs.{up_in, rest_of, counts_in, counts_ready, min_labels_in}
use Rattle.shim_laws_table_events.specs.keeping.Tables.{TableView, HasProcessState, TableInvariant}
use Rattle.shim_laws_table_events.specs.queues.Requeueing.{CoversChanges}
use Rattle.shim_laws_table_events.specs.queues.RecordDecisions.{IsReady, CanHappenAt, HasNothingDue, IsQuietStepAt}

-- whatever event but a quiet step can happen now by the record with this number, could happen by it before, and was no quiet step then
abbrev pub AllowsNoMore : {S : Type 0} → Ops S → TableView S → TableView S → ℕ → Type 0
AllowsNoMore o before after i = (e : Event) → CanHappenAt o after i e → (IsQuietStepAt o after i e → ⊥) → CanHappenAt o before i e × (IsQuietStepAt o before i e → ⊥)

-- a process with this number and the path of this one was ready on the channel
pub record WasReady {S : Type 0} (o : Ops S) (before : TableView S) (c : Channel) (j : ℕ) (s : S) : Type 0 where
  pub first : ℕ
  pub process : S
  pub status : ProcessStatus
  pub has : HasProcessState before j first process status
  pub path : o.path process ≡ o.path s
  pub ready_on : IsReady o before c j process status

-- The state with this number is that before; the record says what it said of its process, and has the labels that it had. By its counts it is ready on no channel on which it wasn't; and on a channel for which it has a label no child is ready that wasn't.
pub record IsNoReadier {S : Type 0} (o : Ops S) (before after : TableView S) (i : ℕ) : Type 0 where
  pub state : slice_get after.states i ≡ slice_get before.states i
  pub rest : option_map rest_of (slice_get after.records i) ≡ option_map rest_of (slice_get before.records i)
  pub labels : (c : Channel) → min_labels_in c after.records i ≡ min_labels_in c before.records i
  pub counts : (c : Channel) → counts_ready (counts_in c after.records i) ≡ true → counts_ready (counts_in c before.records i) ≡ true
  pub children : (c : Channel) (j f : ℕ) (s : S) (k : ProcessStatus) → HasProcessState after j f s k → up_in after.records j ≡ Some i → min_labels_in c after.records i ≢ None → IsReady o after c j s k → WasReady o before c j s

-- Where the table invariant holds, no more can happen by a record than before:
pub record NoMoreCanHappen {S : Type 0} (o : Ops S) : Type 0 where
  -- where nothing but a quiet step can happen by it
  pub idle : (before after : TableView S) (i : ℕ) → HasNothingDue o after i → AllowsNoMore o before after i
  -- where neither it nor a child has become ready
  pub no_readier : (rp : Path) (before after : TableView S) (root : Node S) (i : ℕ) → TableInvariant o rp after root → IsNoReadier o before after i → AllowsNoMore o before after i
  -- and where it needn't be looked at again
  pub as_before : (rp : Path) (before after : TableView S) (root : Node S) (again : ℕ → Bool) (i : ℕ) → TableInvariant o rp after root → CoversChanges before after again → again i ≡ false → AllowsNoMore o before after i
