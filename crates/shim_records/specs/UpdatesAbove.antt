-- The counts above a process updated for all channels that it was given and shares, one after the other.
use Rattle.std.specs.Prelude.{◌≡◌, ◌≤◌, ℕ, true, Some, List, [], ◌∷◌, length, map}
use Rattle.shim_base.specs.Paths.{Path, Channel}
use Rattle.shim_local.specs.Process.{Ops}
use Rattle.shim_local.specs.Laws.{IsGiven}
use Rattle.shim_semantics.specs.Nodes.{Node}
use Rattle.shim_semantics.specs.Acts.{Acted, act_here}
use Rattle.shim_semantics.specs.Sound.{IsSound}
use Rattle.shim_laws_table.specs.NodeStatus.{ProcessStatus, place}
use Rattle.shim_laws_table.specs.Agrees.{Has, Represents}
use Rattle.shim_laws_table.specs.Places.{IsReplaced}
use Rattle.shim_laws_table.specs.Counts.{ChildStatus as Read, child_status}
use Rattle.shim_laws_table.specs.Tallied.{Tallied, OnTheWay, HaveCounts}
use Rattle.shim_laws_table.specs.Updating.{AreLinked, AreAtMost}
use Rattle.shim_records.specs.Members.{IsAmong}
use Rattle.shim_records.specs.Pairs.{child_status_of, counts_in, up_in, rest_of, record_view}
use Rattle.shim_records.specs.Ways.{IsUpdatedAbove}
use Rattle.shim_records.specs.declared.pair.ChildStatus.{ChildStatus}
use Rattle.shim_records.specs.declared.record.Record.{Record}

-- The counts above the record x were updated for each of these channels, one after the other. None of them occurs twice. The status of x for a channel was `was` and is `is`.
pub data AllUpdatedAbove (was is : Channel → Read) (n x : ℕ) : List Channel → List Record → List Record → Type 0 where
  none_left : (rs : List Record) → AllUpdatedAbove was is n x [] rs rs
  one_more : (c : Channel) (cs : List Channel) (read reads : ChildStatus) (before between after : List Record) → (IsAmong c cs → ⊥) → child_status_of read ≡ was c → child_status_of reads ≡ is c
      → IsUpdatedAbove c n x read reads before between → AllUpdatedAbove was is n x cs between after → AllUpdatedAbove was is n x (c ∷ cs) before after

-- The node of a process that did something by itself is in its place. The counts above are still those of the tree before. Once they are updated for each channel that the process was given and shares, all counts are those of the tree now. What else the records say (`rest_of`) is as before.
abbrev pub UpdatesGiveCounts : {S : Type 0} → Ops S → Type 0
UpdatesGiveCounts {S} o = (rp : Path) (states : List S) (rs after : List Record) (old new m : Node S) (a : Acted S) (n x f : ℕ) (s : S) (k : ProcessStatus) (cs : List Channel)
    → IsSound o old → Represents o rp states (map record_view rs) new → AreLinked states (map record_view rs) (up_in rs) → AreAtMost 4294967295 states (map record_view rs)
    → Has states (map record_view rs) x f s k → IsReplaced (place o rp s) m a.node old new → act_here o m ≡ Some a → length (place o rp s) ≤ n
    → ((c : Channel) → IsGiven o s c → o.shares s c ≡ true → IsAmong c cs) → ((c : Channel) → IsAmong c cs → o.shares s c ≡ true)
    → ((c : Channel) → HaveCounts o rp states (map record_view rs) c (counts_in c rs) new) → ((c : Channel) → OnTheWay o rp states (map record_view rs) c (counts_in c rs) old new (place o rp s))
    → AllUpdatedAbove (λ c. child_status o c m) (λ c. child_status o c a.node) n x cs rs after
    → (map rest_of after ≡ map rest_of rs)
    × ((c : Channel) → Tallied o rp states (map record_view after) c (counts_in c after) new × HaveCounts o rp states (map record_view after) c (counts_in c after) new)
