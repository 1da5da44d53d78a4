-- How the counts stand when records have just changed, and nothing above was brought up to date.
use Rattle.std.specs.Prelude.{◌≡◌, ◌≢◌, ◌↔◌, ℕ, true, false, Option, Some, None, List, ◌++◌}
use Rattle.shim_base.specs.Paths.{Path, Channel}
use Rattle.shim_local.specs.Process.{Ops}
use Rattle.shim_semantics.specs.Nodes.{Node, Nodes, Live, Forked, state, all_live}
use Rattle.shim_semantics.specs.Acts.{Acted, act_here}
use Rattle.shim_semantics.specs.Places.{at}
use Rattle.shim_semantics.specs.Sound.{IsSound}
use Rattle.shim_laws_table.specs.NodeStatus.{lives, process_status, is_leaf, place}
use Rattle.shim_laws_table.specs.Agrees.{RecordView, Has, Agrees}
use Rattle.shim_laws_table.specs.Places.{IsReplaced}
use Rattle.shim_laws_table.specs.Changes.{HasChanged, HasForked, HasClosed}
use Rattle.shim_laws_table.specs.Counts.{Tally, tally_of, child_status}
use Rattle.shim_laws_table.specs.LoweredLabels.{Labelled, LabelsOnTheWay}
use Rattle.shim_laws_table.specs.Tallied.{Tallied, OnTheWay, IsCounted, HaveCounts}

-- a new fork has counts for the channel just where it counts the channel, and they are those of its children
pub record AreOf {S : Type 0} (o : Ops S) (c : Channel) (p : S) (ks : Nodes S) (counts : Option Tally) : Type 0 where
  pub right : (y : Tally) → counts ≡ Some y → y ≡ tally_of o c ks
  pub there : (counts ≢ None) ↔ IsCounted o p ks c

-- Where the counts were right for a channel, those above the change are still those of the tree before. All others are those of the tree after it.
pub record CountsBegin {S : Type 0} (o : Ops S) : Type 0 where
  -- a process with nothing below it has changed, or ended, or died
  pub changed : (rp : Path) (before after : List S) (old_views views : List RecordView) (c : Channel) (old new m a : Node S) (i : ℕ) (counts : ℕ → Option Tally)
      → IsReplaced (place o rp (state m)) m a old new → is_leaf a ≡ true → o.given (state a) ≡ o.given (state m) → HasChanged before after old_views views i (state a) (process_status a)
      → Tallied o rp before old_views c counts old → HaveCounts o rp before old_views c counts old
      → OnTheWay o rp after views c counts old new (place o rp (state m)) × HaveCounts o rp after views c counts new
  -- it has forked
  pub forked : (rp : Path) (before after : List S) (old_views views : List RecordView) (c : Channel) (old new : Node S) (i f g : ℕ) (l p : S) (ks : List S) (counts now : ℕ → Option Tally)
      → Agrees o rp before old_views old → Has before old_views i f l lives → IsReplaced (place o rp l) (Live l) (Forked p (all_live ks)) old new → o.path p ≡ o.path l → o.given p ≡ o.given l → HasForked before after old_views views i g p ks
      → ((j : ℕ) → j ≢ i → now j ≡ counts j) → AreOf o c p (all_live ks) (now i)
      → Tallied o rp before old_views c counts old → HaveCounts o rp before old_views c counts old
      → OnTheWay o rp after views c now old new (place o rp l) × HaveCounts o rp after views c now new
  -- its fork has closed
  pub closed : (rp : Path) (before after : List S) (old_views views : List RecordView) (c : Channel) (old new : Node S) (i g n : ℕ) (l : S) (ks : Nodes S) (a : Node S) (counts now : ℕ → Option Tally)
      → IsReplaced (place o rp l) (Forked l ks) a old new → is_leaf a ≡ true → o.given (state a) ≡ o.given l → HasClosed before after old_views views i g n (state a) (process_status a)
      → ((j : ℕ) → j ≢ i → now j ≡ counts j)
      → Tallied o rp before old_views c counts old → HaveCounts o rp before old_views c counts old
      → OnTheWay o rp after views c now old new (place o rp l) × HaveCounts o rp after views c now new

-- Where the least labels of dead sharers were right for a channel, those above the change are still those of the tree before. All others are those of the tree after it.
pub record LabelsBegin {S : Type 0} (o : Ops S) : Type 0 where
  pub changed : (rp : Path) (before after : List S) (old_views views : List RecordView) (c : Channel) (old new m a : Node S) (i : ℕ) (counts : ℕ → Option Tally) (labels : ℕ → Option ℕ)
      → IsReplaced (place o rp (state m)) m a old new → is_leaf a ≡ true → HasChanged before after old_views views i (state a) (process_status a)
      → Labelled o rp before old_views c counts labels old → LabelsOnTheWay o rp after views c counts labels old new (place o rp (state m))
  -- no new child is dead
  pub forked : (rp : Path) (before after : List S) (old_views views : List RecordView) (c : Channel) (old new : Node S) (i f g : ℕ) (l p : S) (ks : List S) (counts now : ℕ → Option Tally) (labels say : ℕ → Option ℕ)
      → Agrees o rp before old_views old → Has before old_views i f l lives → IsReplaced (place o rp l) (Live l) (Forked p (all_live ks)) old new → o.path p ≡ o.path l → HasForked before after old_views views i g p ks
      → ((j : ℕ) → j ≢ i → now j ≡ counts j) → ((j : ℕ) → j ≢ i → say j ≡ labels j) → say i ≡ None
      → Labelled o rp before old_views c counts labels old → LabelsOnTheWay o rp after views c now say old new (place o rp l)
  pub closed : (rp : Path) (before after : List S) (old_views views : List RecordView) (c : Channel) (old new : Node S) (i g n : ℕ) (l : S) (ks : Nodes S) (a : Node S) (counts now : ℕ → Option Tally) (labels say : ℕ → Option ℕ)
      → IsReplaced (place o rp l) (Forked l ks) a old new → is_leaf a ≡ true → HasClosed before after old_views views i g n (state a) (process_status a)
      → ((j : ℕ) → j ≢ i → now j ≡ counts j) → ((j : ℕ) → j ≢ i → say j ≡ labels j)
      → Labelled o rp before old_views c counts labels old → LabelsOnTheWay o rp after views c now say old new (place o rp l)

-- what a process does by itself leaves what its fork gave it, and what it shares of the channels of others
pub record ForeignStays {S : Type 0} (o : Ops S) : Type 0 where
  pub given : (root m : Node S) (q : List ℕ) (a : Acted S) → IsSound o root → at q root ≡ Some m → act_here o m ≡ Some a → o.given (state a.node) ≡ o.given (state m)
  pub shares : (root m : Node S) (q : List ℕ) (a : Acted S) (c : Channel) → IsSound o root → at q root ≡ Some m → act_here o m ≡ Some a → c.home ≢ o.path (state m)
      → o.shares (state a.node) c ≡ o.shares (state m) c
  -- of a channel that it doesn't share, and that was declared neither by it nor below, a fork reads the same before and after
  pub reads : (root m : Node S) (q : List ℕ) (a : Acted S) (c : Channel) → IsSound o root → at q root ≡ Some m → act_here o m ≡ Some a → ((r : Path) → c.home ≢ o.path (state m) ++ r)
      → o.shares (state m) c ≡ false → child_status o c m ≡ child_status o c a.node
