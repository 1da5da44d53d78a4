-- How the links from children to their forks, and the numbers of children that go on, follow a change.
use Rattle.std.specs.Prelude.{◌≡◌, ◌<◌, ℕ, ◌+◌, true, Option, Some, List, [], ◌∷◌, ◌++◌, length}
use Rattle.shim_base.specs.Paths.{Path}
use Rattle.shim_local.specs.Process.{Ops}
use Rattle.shim_semantics.specs.Nodes.{Node, Nodes, Forked, state, goes}
use Rattle.shim_semantics.specs.Places.{at}
use Rattle.shim_laws_table.specs.NodeStatus.{ProcessStatus, lives, process_status, is_leaf}
use Rattle.shim_laws_table.specs.Agrees.{RecordView, Has, Represents}
use Rattle.shim_laws_table.specs.Places.{IsReplaced}
use Rattle.shim_laws_table.specs.Changes.{HasChanged, HasForked, HasClosed}
use Rattle.shim_laws_table.specs.Counts.{bit, going_of}
use Rattle.shim_laws_table.specs.Updating.{AreLinked}

-- How the links from children to their forks follow what records do:
pub record LinksFollow {S : Type 0} (o : Ops S) : Type 0 where
  -- where a process changes that has nothing below it afterwards, and where a fork closes, the links stay
  pub changed : (before after : List S) (old_views views : List RecordView) (i : ℕ) (a : Node S) (up : ℕ → Option ℕ) → is_leaf a ≡ true → HasChanged before after old_views views i (state a) (process_status a)
      → AreLinked before old_views up → AreLinked after views up
  pub closed : (before after : List S) (old_views views : List RecordView) (i g n : ℕ) (a : Node S) (up : ℕ → Option ℕ) → is_leaf a ≡ true → HasClosed before after old_views views i g n (state a) (process_status a)
      → AreLinked before old_views up → AreLinked after views up
  -- where a process forks, its children are linked to it, and every other link stays
  pub forked : (rp : Path) (before after : List S) (old_views views : List RecordView) (root : Node S) (i f g : ℕ) (l p : S) (ks : List S) (up now : ℕ → Option ℕ) → Represents o rp before old_views root → Has before old_views i f l lives
      → HasForked before after old_views views i g p ks → ((b : ℕ) → b < length ks → now (g + b) ≡ Some i) → ((j d : ℕ) (s : S) (k : ProcessStatus) → Has before old_views j d s k → now j ≡ up j)
      → AreLinked before old_views up → AreLinked after views now

-- Another node is put in a place. In the fork right above, the number of children that go on changes by that child alone. In each other fork above, that number stays.
pub record RunningFollow {S : Type 0} (o : Ops S) : Type 0 where
  pub right_above : (old new m a : Node S) (r : List ℕ) (b : ℕ) (l : S) (ks js : Nodes S) → IsReplaced (r ++ b ∷ []) m a old new → at r old ≡ Some (Forked l ks) → at r new ≡ Some (Forked l js)
      → going_of js + bit (goes m) ≡ going_of ks + bit (goes a)
  pub further_above : (old new m a : Node S) (r : List ℕ) (b d : ℕ) (t : List ℕ) (l : S) (ks js : Nodes S) → IsReplaced (r ++ b ∷ d ∷ t) m a old new → at r old ≡ Some (Forked l ks) → at r new ≡ Some (Forked l js)
      → going_of js ≡ going_of ks
