-- The counts above a process that did anything by itself, updated for the channels that it was given, one after the other.
use Rattle.std.specs.Prelude.{◌≡◌, ◌<◌, ◌≤◌, ℕ, true, false, Some, List, slice_get, length, map}
use Rattle.shim_base.specs.Paths.{Path, Channel, NamedChannel}
use Rattle.shim_local.specs.Process.{Ops}
use Rattle.shim_local.specs.Laws.{IsGiven}
use Rattle.shim_semantics.specs.Nodes.{Node}
use Rattle.shim_semantics.specs.Acts.{Acted, act_here}
use Rattle.shim_semantics.specs.Sound.{IsSound}
use Rattle.shim_laws_table.specs.NodeStatus.{ProcessStatus, lives, forks, ends, dies, is_leaf, place}
use Rattle.shim_laws_table.specs.Agrees.{Has, Represents}
use Rattle.shim_laws_table.specs.Places.{IsReplaced}
use Rattle.shim_laws_table.specs.Tallied.{Tallied, OnTheWay, HaveCounts}
use Rattle.shim_laws_table.specs.Updating.{AreLinked, AreAtMost}
use Rattle.shim_laws_table.specs.Counts.{ChildStatus as Read}
use Rattle.shim_laws_table.specs.Sufficing.{leaf_status}
use Rattle.shim_records.specs.Members.{IsAmong}
use Rattle.shim_records.specs.Pairs.{child_status_of, counts_in, up_in, rest_of, record_view}
use Rattle.shim_records.specs.Ways.{IsUpdatedAbove}
use Rattle.shim_records.specs.UpdatesAbove.{AllUpdatedAbove}
use Rattle.shim_records.specs.declared.pair.ChildStatus.{ChildStatus}
use Rattle.shim_records.specs.declared.record.Record.{Record}
use Rattle.shim_records.specs.declared.record.Status.{Status}
use Rattle.shim_records.specs.declared.record.Status.TheVariants as code

-- the status of the process of a record in use; of a free one, which has no process, it is `ends`
abbrev pub process_status_of : Status → ProcessStatus
process_status_of code.Free = ends
process_status_of code.Live = lives
process_status_of (code.Forked n) = forks n
process_status_of code.Ended = ends
process_status_of (code.Dead d) = dies d

-- what a fork read of a process before it did anything by itself
abbrev pub acting : {S : Type 0} → Ops S → S → Channel → Read
acting o s c = record { going = o.shares s c; ready_on = false; dead_on = false }

-- the channel is at a place before this one, of those that the process was given
abbrev pub Earlier : {S : Type 0} → Ops S → S → Channel → ℕ → Type 0
Earlier o s c place = (at : ℕ) × (d : NamedChannel) × (at < place) × (slice_get (o.given s) at ≡ Some d) × (d.channel ≡ c)

-- For the channel c the counts above the record x were updated. No record has changed if the process doesn't share c, or if c is at a place before this one.
pub data UpdatesForOne {S : Type 0} (o : Ops S) (s : S) (k : ProcessStatus) (n x : ℕ) (c : Channel) (place : ℕ) (before after : List Record) : Type 0 where
  unshared : o.shares s c ≡ false → after ≡ before → UpdatesForOne o s k n x c place before after
  again : Earlier o s c place → after ≡ before → UpdatesForOne o s k n x c place before after
  walked : o.shares s c ≡ true → (Earlier o s c place → ⊥) → (read reads : ChildStatus) → child_status_of read ≡ acting o s c → child_status_of reads ≡ leaf_status o c s k → IsUpdatedAbove c n x read reads before after → UpdatesForOne o s k n x c place before after

-- The counts above the record x were updated for each channel of `chans`. The process shares each of these, and all that it was given and shares are among them.
pub record AllUpdated {S : Type 0} (o : Ops S) (s : S) (k : ProcessStatus) (n x : ℕ) (before after : List Record) : Type 0 where
  pub chans : List Channel
  pub updated : AllUpdatedAbove (acting o s) (λ c. leaf_status o c s k) n x chans before after
  pub all : (c : Channel) → IsGiven o s c → o.shares s c ≡ true → IsAmong c chans
  pub shared : (c : Channel) → IsAmong c chans → o.shares s c ≡ true

-- The node of a process that did something by itself, and has no children now, is in its place. The counts above are still those of the tree before. Once they are updated (`AllUpdated`), all counts are those of the tree now. What else the records say (`rest_of`) is as before.
abbrev pub StepUpdatesCounts : {S : Type 0} → Ops S → Type 0
StepUpdatesCounts {S} o = (rp : Path) (states : List S) (rs after : List Record) (old new m : Node S) (a : Acted S) (n x f : ℕ) (s : S) (k : ProcessStatus)
    → IsSound o old → Represents o rp states (map record_view rs) new → AreLinked states (map record_view rs) (up_in rs) → AreAtMost 4294967295 states (map record_view rs)
    → Has states (map record_view rs) x f s k → IsReplaced (place o rp s) m a.node old new → act_here o m ≡ Some a → is_leaf a.node ≡ true → length (place o rp s) ≤ n
    → ((c : Channel) → HaveCounts o rp states (map record_view rs) c (counts_in c rs) new) → ((c : Channel) → OnTheWay o rp states (map record_view rs) c (counts_in c rs) old new (place o rp s))
    → AllUpdated o s k n x rs after
    → (map rest_of after ≡ map rest_of rs)
    × ((c : Channel) → Tallied o rp states (map record_view after) c (counts_in c after) new × HaveCounts o rp states (map record_view after) c (counts_in c after) new)
