-- The channels that a process was given are enough to look at, where it did anything by itself.
use Rattle.std.specs.Prelude.{◌≡◌, ℕ, true, false, Option, Some, List}
use Rattle.shim_base.specs.Paths.{Path, Channel}
use Rattle.shim_local.specs.Process.{Ops}
use Rattle.shim_local.specs.Laws.{IsGiven}
use Rattle.shim_semantics.specs.Nodes.{Node, state, is_next}
use Rattle.shim_semantics.specs.Acts.{Acted, act_here}
use Rattle.shim_semantics.specs.Sound.{IsSound}
use Rattle.shim_laws_table.specs.NodeStatus.{ProcessStatus, lives, forks, ends, dies, process_status, is_leaf, place}
use Rattle.shim_laws_table.specs.Agrees.{RecordView, Has, Represents}
use Rattle.shim_laws_table.specs.Places.{IsReplaced}
use Rattle.shim_laws_table.specs.Counts.{Tally, ChildStatus, child_status}
use Rattle.shim_laws_table.specs.Tallied.{Tallied, OnTheWay, HaveCounts}
use Rattle.shim_laws_table.specs.LoweredLabels.{Labelled, LabelsOnTheWay}

-- Of a channel that the process s wasn't given by its fork, or doesn't share, nothing above changes by what it did:
pub record GivenSuffice {S : Type 0} (o : Ops S) : Type 0 where
  -- no counts
  pub counts : (rp : Path) (records : List S) (views : List RecordView) (c : Channel) (old new m : Node S) (a : Acted S) (x f : ℕ) (s : S) (k : ProcessStatus) (counts : ℕ → Option Tally)
      → IsSound o old → Represents o rp records views new → Has records views x f s k → IsReplaced (place o rp s) m a.node old new → act_here o m ≡ Some a → (IsGiven o s c → o.shares s c ≡ true → ⊥)
      → HaveCounts o rp records views c counts new → OnTheWay o rp records views c counts old new (place o rp s) → Tallied o rp records views c counts new
  -- and no label
  pub labels : (rp : Path) (records : List S) (views : List RecordView) (c : Channel) (old new m : Node S) (a : Acted S) (x f : ℕ) (s : S) (k : ProcessStatus) (counts : ℕ → Option Tally) (labels : ℕ → Option ℕ)
      → IsSound o old → Represents o rp records views new → Has records views x f s k → IsReplaced (place o rp s) m a.node old new → act_here o m ≡ Some a → (IsGiven o s c → o.shares s c ≡ true → ⊥)
      → HaveCounts o rp records views c counts new → LabelsOnTheWay o rp records views c counts labels old new (place o rp s) → Labelled o rp records views c counts labels new

-- what a fork reads of a child without children, with this state and status
abbrev pub leaf_status : {S : Type 0} → Ops S → Channel → S → ProcessStatus → ChildStatus
leaf_status o c s lives = record { going = o.shares s c; ready_on = is_next (o.stop s) c; dead_on = false }
leaf_status o c s (forks n) = record { going = false; ready_on = false; dead_on = false }
leaf_status o c s ends = record { going = false; ready_on = false; dead_on = false }
leaf_status o c s (dies d) = record { going = false; ready_on = false; dead_on = o.shares s c }

-- What is read of a process that does anything by itself:
pub record ActorsAreRead {S : Type 0} (o : Ops S) : Type 0 where
  -- before, it isn't ready on any channel, and not dead
  pub before : (c : Channel) (m : Node S) (a : Acted S) → act_here o m ≡ Some a → child_status o c m ≡ record { going = o.shares (state m) c; ready_on = false; dead_on = false }
  -- afterwards, if it has no children, its state and its status decide
  pub behind : (c : Channel) (a : Node S) → is_leaf a ≡ true → child_status o c a ≡ leaf_status o c (state a) (process_status a)
