-- How the counts are brought up to date on the way up from a process of which anything has changed.
use Rattle.std.specs.Prelude.{◌≡◌, ◌≢◌, ◌≤◌, ◌<◌, ℕ, zero, suc, ◌+◌, true, false, Option, Some, None, List, ◌++◌, length}
use Rattle.shim_base.specs.Paths.{Path, Channel}
use Rattle.shim_local.specs.Process.{Ops}
use Rattle.shim_semantics.specs.Nodes.{Node, state}
use Rattle.shim_semantics.specs.Places.{SoundBelow}
use Rattle.shim_laws_table.specs.NodeStatus.{ProcessStatus, forks, place}
use Rattle.shim_laws_table.specs.Agrees.{RecordView, Has, Represents}
use Rattle.shim_laws_table.specs.Places.{IsReplaced}
use Rattle.shim_laws_table.specs.Counts.{Tally, ChildStatus, child_status, bit, not_ready_on, tally_ready, fork_status, IsExchanged}
use Rattle.shim_laws_table.specs.Tallied.{Tallied, OnTheWay, HaveCounts}

-- each child of a fork knows the fork's number, and the root knows none
pub record AreLinked {S : Type 0} (records : List S) (views : List RecordView) (up : ℕ → Option ℕ) : Type 0 where
  pub parents : (i f n : ℕ) (s : S) → Has records views i f s (forks n) → (b : ℕ) → b < n → up (f + b) ≡ Some i
  pub top : up 0 ≡ None

-- no fork has more children than that
abbrev pub AreAtMost : {S : Type 0} → ℕ → List S → List RecordView → Type 0
AreAtMost {S} most records views = (i f n : ℕ) (s : S) → Has records views i f s (forks n) → n ≤ most

-- The counts include what was read of the child before, and there is room for what is read of it afterwards.
pub record CanMove (most : ℕ) (was is : ChildStatus) (y : Tally) : Type 0 where
  pub going : bit was.going ≤ y.going
  pub not_ready : bit (not_ready_on was) ≤ y.not_ready
  pub dead : bit was.dead_on ≤ y.dead
  pub going_fits : y.going + bit is.going ≤ most + bit was.going
  pub not_ready_fits : y.not_ready + bit (not_ready_on is) ≤ most + bit (not_ready_on was)
  pub dead_fits : y.dead + bit is.dead_on ≤ most + bit was.dead_on

-- The record j had the counts y and has the counts z. If y can move (`CanMove`), z is y with the child's new status. No other counts change.
pub record AreMoved (most : ℕ) (before : ℕ → Option Tally) (j : ℕ) (was is : ChildStatus) (y z : Tally) (after : ℕ → Option Tally) : Type 0 where
  pub old : before j ≡ Some y
  pub new : after j ≡ Some z
  pub moved : CanMove most was is y → IsExchanged was is y z
  pub others : (i : ℕ) → i ≢ j → after i ≡ before i

-- Of the record x `was` was read before, and `is` is read afterwards. The way up leads through at most n forks, whose counts are moved (`AreMoved`) one after another. It ends after n forks, at the root, or below a fork without counts. Or it ends at one fork more that is ready exactly if it was, whose counts are moved, too.
pub data UpdatedAbove (up : ℕ → Option ℕ) (most : ℕ) : ℕ → (ℕ → Option Tally) → ℕ → ChildStatus → ChildStatus → (ℕ → Option Tally) → Type 0 where
  too_far : (before : ℕ → Option Tally) (x : ℕ) (was is : ChildStatus) → UpdatedAbove up most zero before x was is before
  at_top : (n : ℕ) (before : ℕ → Option Tally) (x : ℕ) (was is : ChildStatus) → up x ≡ None → UpdatedAbove up most n before x was is before
  no_counts : (n : ℕ) (before : ℕ → Option Tally) (x j : ℕ) (was is : ChildStatus) → up x ≡ Some j → before j ≡ None → UpdatedAbove up most n before x was is before
  stays : (n : ℕ) (before after : ℕ → Option Tally) (x j : ℕ) (was is : ChildStatus) (y z : Tally) → up x ≡ Some j → AreMoved most before j was is y z after
      → tally_ready y ≡ tally_ready z → UpdatedAbove up most n before x was is after
  goes_on : (n : ℕ) (before between after : ℕ → Option Tally) (x j : ℕ) (was is : ChildStatus) (y z : Tally) → up x ≡ Some j → AreMoved most before j was is y z between
      → UpdatedAbove up most n between j (fork_status true y) (fork_status true z) after → UpdatedAbove up most (suc n) before x was is after

-- Another node is at a process's place, and so far the counts above are those of the tree before. Of each channel they are afterwards those of the tree with that node:
pub record CountsFollow {S : Type 0} (o : Ops S) : Type 0 where
  -- where they were updated above the process (`UpdatedAbove`)
  pub updated : (rp : Path) (records : List S) (views : List RecordView) (up : ℕ → Option ℕ) (c : Channel) (old new m a : Node S) (most n x f : ℕ) (s : S) (k : ProcessStatus) (was is : ChildStatus) (before after : ℕ → Option Tally)
      → Represents o rp records views new → AreLinked records views up → AreAtMost most records views → Has records views x f s k → IsReplaced (place o rp s) m a old new
      → child_status o c m ≡ was → child_status o c a ≡ is → length (place o rp s) ≤ n → o.shares s c ≡ true
      → HaveCounts o rp records views c before new → OnTheWay o rp records views c before old new (place o rp s) → UpdatedAbove up most n before x was is after
      → Tallied o rp records views c after new × HaveCounts o rp records views c after new
  -- where the same is read of both nodes, with nothing done
  pub alike : (rp : Path) (records : List S) (views : List RecordView) (c : Channel) (old new m a : Node S) (q : List ℕ) (counts : ℕ → Option Tally)
      → IsReplaced q m a old new → child_status o c m ≡ child_status o c a → OnTheWay o rp records views c counts old new q → Tallied o rp records views c counts new
  -- where the channel was declared by the process, or by one below it, with nothing done
  pub own : (rp : Path) (records : List S) (views : List RecordView) (c : Channel) (old new : Node S) (x f : ℕ) (s : S) (k : ProcessStatus) (r : Path) (counts : ℕ → Option Tally)
      → Represents o rp records views new → Has records views x f s k → c.home ≡ o.path s ++ r
      → HaveCounts o rp records views c counts new → OnTheWay o rp records views c counts old new (place o rp s) → Tallied o rp records views c counts new
  -- and of a channel that a process doesn't share and that was declared neither by it nor below, nothing is read
  pub unshared : (c : Channel) (n : Node S) → SoundBelow o n → o.shares (state n) c ≡ false → ((r : Path) → c.home ≢ o.path (state n) ++ r)
      → child_status o c n ≡ record { going = false; ready_on = false; dead_on = false }
