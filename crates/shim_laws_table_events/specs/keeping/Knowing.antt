-- What forks know of who shares a channel below them, and of where its own variable is.
use Rattle.std.specs.Prelude.{◌≡◌, ◌≤◌, ◌<◌, ℕ, true, Option, Some, List, []}
use Rattle.shim_base.specs.Paths.{Path, Channel}
use Rattle.shim_local.specs.Process.{Ops}
use Rattle.shim_local.specs.Laws.{IsGiven}
use Rattle.shim_semantics.specs.Nodes.{Node, Nodes, Forked, state}
use Rattle.shim_semantics.specs.Places.{at, child_at}
use Rattle.shim_semantics.specs.Sound.{carriers}
use Rattle.shim_laws_table.specs.NodeStatus.{forks, place, how_many_nodes}
use Rattle.shim_laws_table.specs.Agrees.{RecordView, Has}
use Rattle.shim_records.specs.declared.pair.Sharing.{Sharing}

-- The fork of l with these children knows this of the channel.
pub record Knows {S : Type 0} (o : Ops S) (c : Channel) (l : S) (ks : Nodes S) (k : Sharing) : Type 0 where
  -- `last` is a child's branch, and each child that was given the channel has a branch from `first` to `last`
  pub within : k.last < how_many_nodes ks
  pub between : (b : ℕ) (m : Node S) → child_at b [] ks ≡ Some m → IsGiven o (state m) c → (k.first ≤ b) × (b ≤ k.last)
  -- if the fork's own process carries the channel, no child is the source; if a process at or below a child carries it, that child is the source
  pub kept_own : o.carries l c ≡ true → how_many_nodes ks ≤ k.source
  pub handed_on : (b : ℕ) (m : Node S) → child_at b [] ks ≡ Some m → 1 ≤ carriers o c m → k.source ≡ b

-- If the record of a fork knows anything of the channel (`Sharing`), it is true of the node at the record's place.
abbrev pub AreKnown : {S : Type 0} → Ops S → Path → List S → List RecordView → Channel → (ℕ → Option Sharing) → Node S → Type 0
AreKnown {S} o rp records views c known root = (i f n : ℕ) (s : S) (k : Sharing) (l : S) (ks : Nodes S) → Has records views i f s (forks n) → known i ≡ Some k → at (place o rp s) root ≡ Some (Forked l ks) → Knows o c l ks k
