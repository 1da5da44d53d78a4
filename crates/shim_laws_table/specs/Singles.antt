-- A rendezvous and a poison as changes of one process after the other: each leaves a sound tree.
use Rattle.std.specs.Prelude.{◌≡◌, ◌≤◌, ◌<◌, ℕ, ℤ, Some, List}
use Rattle.shim_base.specs.Paths.{Path, NamedChannel}
use Rattle.shim_local.specs.Process.{Ops, AtNext}
use Rattle.shim_semantics.specs.Nodes.{Node, Nodes, Live, Forked, Dead, Death, state}
use Rattle.shim_semantics.specs.Places.{at, child_at}
use Rattle.shim_semantics.specs.Sound.{IsSound}
use Rattle.shim_laws_table.specs.NodeStatus.{lives, dies, place}
use Rattle.shim_laws_table.specs.Agrees.{RecordView, Has, Represents}
use Rattle.shim_laws_table.specs.Places.{IsReplaced}
use Rattle.shim_laws_table.specs.Changes.{HasChanged}

-- After each of these changes the records represent the tree in which that process's node alone is replaced:
pub record SingleChangesAreRepresented {S : Type 0} (o : Ops S) : Type 0 where
  -- one process receives at the channel at which it is
  pub received : (rp : Path) (before after : List S) (old_views views : List RecordView) (old new : Node S) (i f : ℕ) (l : S) (c : NamedChannel) (v : ℤ) → Represents o rp before old_views old → Has before old_views i f l lives → o.stop l ≡ AtNext c
      → IsReplaced (place o rp l) (Live l) (Live (o.receive l v)) old new → HasChanged before after old_views views i (o.receive l v) lives → Represents o rp after views new
  -- one process dies of an exception for which it has no handler
  pub died : (rp : Path) (before after : List S) (old_views views : List RecordView) (old new : Node S) (i f : ℕ) (l : S) (d : Death) → Represents o rp before old_views old → Has before old_views i f l lives → d.label < o.base l
      → IsReplaced (place o rp l) (Live l) (Dead l d) old new → HasChanged before after old_views views i l (dies d) → Represents o rp after views new
  -- the base of each process below a fork is at least the number of handlers in force at the fork
  pub handled : (root m : Node S) (q : List ℕ) (l : S) (ks : Nodes S) (b : ℕ) (r : List ℕ) → IsSound o root → at q root ≡ Some (Forked l ks) → child_at b r ks ≡ Some m → o.handlers l ≤ o.base (state m)
