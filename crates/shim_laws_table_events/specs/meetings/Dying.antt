-- One process is killed by a poison: how the records change with it.
use Rattle.std.specs.Prelude.{◌≡◌, ℕ, Some, List, slice_get, slice_set}
use Rattle.shim_local.specs.Process.{Ops}
use Rattle.shim_semantics.specs.Nodes.{death}
use Rattle.shim_records.specs.Killed.{IsKilled}
use Rattle.shim_records.specs.Died.{IsTaken}
use Rattle.shim_records.specs.CountingOff.{HasCountedOff}
use Rattle.shim_records.specs.declared.record.Record.{Record}
use Rattle.shim_records.specs.declared.record.Status.TheVariants.{Dead}

-- the record of a process that died of an exception with this label
abbrev pub dead_record : Record → ℕ → Record
dead_record r label = record { status = Dead (death label); first = r.first; parent = r.parent; path = r.path; going_children = r.going_children; pairs = r.pairs }

-- The process of the record x has died: first its record has the death with this label. Then the counts above are updated, and then the label is taken in, each through at most n forks. Last, its fork counts one child less that goes on.
pub record DiesAt {S : Type 0} (o : Ops S) (s : S) (label n x : ℕ) (before after : List Record) : Type 0 where
  pub old_record : Record
  pub there : slice_get before x ≡ Some old_record
  pub counted : List Record
  pub labelled : List Record
  pub killed : IsKilled o s n x (slice_set before x (dead_record old_record label)) counted
  pub taken : IsTaken o s label n x counted labelled
  pub left : HasCountedOff x labelled after
