-- The record at which an event is looked for, and the records that are looked at again once states and records have changed.
use Rattle.std.specs.Prelude.{◌≡◌, ℕ, Bool, false, Some, slice_get}
use Rattle.std.specs.Option.{option_map}
use Rattle.shim_base.specs.Paths.{Path, Channel}
use Rattle.shim_local.specs.Process.{Ops}
use Rattle.shim_semantics.specs.Nodes.{Node}
use Rattle.shim_semantics.specs.Trees.{Tree, Event}
use Rattle.shim_laws_table.specs.NodeStatus.{ProcessStatus}
use Rattle.shim_laws_table.specs.Enabled.{Can, IsAt}
use Rattle.shim_records.specs.Pairs.{up_in, rest_of, counts_in, min_labels_in}
use Rattle.shim_laws_table_events.specs.keeping.Tables.{TableView, HasProcessState, TableInvariant, views}

-- the event is looked for at the record with this number
abbrev pub IsAtNumber : {S : Type 0} → Ops S → TableView S → Event → ℕ → Type 0
IsAtNumber o v e i = IsAt o v.states (views v) e i

-- The state with this number is that before, and the record says what it said: of the process, and for each channel.
pub record IsAsBefore {S : Type 0} (before after : TableView S) (i : ℕ) : Type 0 where
  pub state : slice_get after.states i ≡ slice_get before.states i
  pub rest : option_map rest_of (slice_get after.records i) ≡ option_map rest_of (slice_get before.records i)
  pub counts : (c : Channel) → counts_in c after.records i ≡ counts_in c before.records i
  pub labels : (c : Channel) → min_labels_in c after.records i ≡ min_labels_in c before.records i

-- Some numbers are to be looked at again. Whatever record in use isn't as before is among them, and so is its parent:
pub record CoversChanges {S : Type 0} (before after : TableView S) (again : ℕ → Bool) : Type 0 where
  -- a record that isn't among them is as before
  pub itself : (i f : ℕ) (s : S) (k : ProcessStatus) → HasProcessState after i f s k → again i ≡ false → IsAsBefore before after i
  -- and so is each child of one that isn't
  pub children : (i j f : ℕ) (s : S) (k : ProcessStatus) → HasProcessState after j f s k → up_in after.records j ≡ Some i → again i ≡ false → IsAsBefore before after j

-- What can happen after the change, and is looked for at a number that isn't to be looked at again, could happen before, and was looked for there.
abbrev pub RequeueingSuffices : {S : Type 0} → Ops S → Type 0
RequeueingSuffices {S} o = (rp : Path) (before after : TableView S) (t u : Tree S) (again : ℕ → Bool) (e : Event) (i : ℕ) → TableInvariant o rp before t.root → TableInvariant o rp after u.root → CoversChanges before after again
    → Can o u e → IsAtNumber o after e i → again i ≡ false → IsAtNumber o before e i × Can o t e

-- Where events are looked for:
pub record EventHasOneOwner {S : Type 0} (o : Ops S) : Type 0 where
  -- each enabled event is looked for at a number
  pub somewhere : (rp : Path) (v : TableView S) (t : Tree S) (e : Event) → TableInvariant o rp v t.root → Can o t e → (i : ℕ) × IsAtNumber o v e i
  -- and at one alone
  pub once : (rp : Path) (v : TableView S) (root : Node S) (e : Event) (i j : ℕ) → TableInvariant o rp v root → IsAtNumber o v e i → IsAtNumber o v e j → i ≡ j
