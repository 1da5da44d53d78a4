-- What a live process does by itself that makes no children: it lives on, or ends, or dies.
use Rattle.std.specs.Prelude.{◌≡◌, ℕ, false, Some, List, slice_get, slice_set}
use Rattle.shim_base.specs.Paths.{Path}
use Rattle.shim_local.specs.Process.{Ops, StopView, AtQuiet, AtNext, AtPut, AtFork, AtFinish, AtThrow, AtTrap}
use Rattle.shim_semantics.specs.Nodes.{Node, Live, Ended, Dead, goes}
use Rattle.shim_semantics.specs.Acts.{Effects, act_live}
use Rattle.shim_semantics.specs.Trees.{Event, Own, End}
use Rattle.shim_laws_table.specs.NodeStatus.{lives}
use Rattle.shim_records.specs.Acted.{process_status_of, AllUpdated}
use Rattle.shim_records.specs.Died.{IsTaken}
use Rattle.shim_records.specs.CountingOff.{HasCountedOff}
use Rattle.shim_records.specs.declared.record.Record.{Record}
use Rattle.shim_records.specs.declared.record.Status.{Status}
use Rattle.shim_records.specs.declared.record.Status.TheVariants as code
use Rattle.shim_laws_table_events.specs.keeping.Tables.{HasProcessState}
use Rattle.shim_laws_table_events.specs.keeping.Moves.{Performs}
use Rattle.shim_laws_table_events.specs.keeping.Propagating.{PropagatesStop}

-- the event by which a process of this path does at this stop what it can do by itself; at a `next`, where it can do nothing, it is its own step
abbrev pub event_at_stop : StopView → Path → Event
event_at_stop AtFinish p = End p
event_at_stop AtQuiet p = Own p
event_at_stop AtPut p = Own p
event_at_stop AtFork p = Own p
event_at_stop (AtNext c) p = Own p
event_at_stop (AtThrow label) p = Own p
event_at_stop (AtTrap kind line) p = Own p

-- the node of a process with this state and status, if that is an end or a death; by each other status the node of a live process
abbrev pub left_by : {S : Type 0} → S → Status → Node S
left_by l code.Ended = Ended l
left_by l (code.Dead d) = Dead l d
left_by l code.Free = Live l
left_by l code.Live = Live l
left_by l (code.Forked n) = Live l

-- the record with this status
abbrev pub with_status : Status → Record → Record
with_status k r = record { status = k; first = r.first; parent = r.parent; path = r.path; going_children = r.going_children; pairs = r.pairs }

-- the label of a death is taken in above, and where there is none nothing is done
abbrev pub TakesIn : {S : Type 0} → Ops S → S → Status → ℕ → ℕ → List Record → List Record → Type 0
TakesIn o s (code.Dead d) n x before after = IsTaken o s d.label n x before after
TakesIn o s code.Ended n x before after = after ≡ before
TakesIn o s code.Free n x before after = after ≡ before
TakesIn o s code.Live n x before after = after ≡ before
TakesIn o s (code.Forked m) n x before after = after ≡ before

-- The process of the record x ends or dies: the record says so, then the labels above are brought up to date, then the counts, and then its fork has one child less that goes on.
pub record Terminates {S : Type 0} (o : Ops S) (s : S) (k : Status) (n x : ℕ) (before after : List Record) : Type 0 where
  pub was : Record
  pub there : slice_get before x ≡ Some was
  pub labelled : List Record
  pub counted : List Record
  pub takes : TakesIn o s k n x (slice_set before x (with_status k was)) labelled
  pub updated : AllUpdated o s (process_status_of k) n x labelled counted
  pub left : HasCountedOff x counted after

-- Where a live process did something by itself that lets it live on, and the counts above were updated for the stop to which it came, the tree moves by that event.
abbrev pub StepPreserves : {S : Type 0} → Ops S → Type 0
StepPreserves {S} o = (states : List S) (rs after : List Record) (x f : ℕ) (l s : S) (effects : Effects) → HasProcessState (record { states = states; records = rs }) x f l lives → act_live o l (o.stop l) ≡ Some (record { node = Live s; effects = effects })
    → PropagatesStop o s 4294967295 x rs after → Performs o (event_at_stop (o.stop l) (o.path l)) (record { states = states; records = rs }) (record { states = slice_set states x s; records = after })

-- Where a live process did something by itself by which it ends or dies, and the records say so, the tree moves by that event.
abbrev pub ExitPreserves : {S : Type 0} → Ops S → Type 0
ExitPreserves {S} o = (states : List S) (rs after : List Record) (x f : ℕ) (l : S) (k : Status) (effects : Effects) → HasProcessState (record { states = states; records = rs }) x f l lives → act_live o l (o.stop l) ≡ Some (record { node = left_by l k; effects = effects })
    → goes (left_by l k) ≡ false → Terminates o l k 4294967295 x rs after → Performs o (event_at_stop (o.stop l) (o.path l)) (record { states = states; records = rs }) (record { states = states; records = after })
