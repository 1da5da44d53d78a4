-- What putting and freeing a block of records does to what the records show.
use Rattle.shim_records.specs.declared.pair.Pair.{Pair}
use Rattle.shim_records.specs.Fresh.{FreshPairs}
use Rattle.shim_laws_table.specs.Dooms.{min_dead_label_among}
use Rattle.shim_laws_table.specs.Beginning.{AreOf}
use Rattle.std.specs.Prelude.{◌≡◌, ◌<◌, ◌≤◌, ℕ, ◌+◌, Some, List, map, slice_get, slice_set, length}
use Rattle.shim_base.specs.Paths.{Path, Channel}
use Rattle.shim_local.specs.Process.{Ops}
use Rattle.shim_semantics.specs.Nodes.{Node, all_live}
use Rattle.shim_laws_table.specs.NodeStatus.{ProcessStatus, lives, forks}
use Rattle.shim_laws_table.specs.Agrees.{used, Has, Agrees}
use Rattle.shim_laws_table.specs.Changes.{HasForked, HasClosed}
use Rattle.shim_records.specs.Pairs.{record_view, tally_for, min_label_of, pair_of}
use Rattle.shim_records.specs.Blocks.{with_block, IsFreed}
use Rattle.shim_records.specs.declared.record.Record.{Record}

-- records of live processes
abbrev pub AllLive : List Record → Type 0
AllLive rs = (b : ℕ) (r : Record) → slice_get rs b ≡ Some r → (f : ℕ) × (record_view r ≡ used f lives)

-- What records show when a block was put, or was freed:
pub record BlocksAreEvents {S : Type 0} (o : Ops S) : Type 0 where
  -- a process has forked whose record says so, and whose children's states and records were put together in place of free ones or after all
  pub fork : (states : List S) (rs born : List Record) (i f g : ℕ) (l p : S) (ks : List S) (r : Record) → length states ≡ length rs → g ≤ length rs → length born ≡ length ks → AllLive born
      → Has states (map record_view rs) i f l lives → ((b d : ℕ) (t : S) (x : ProcessStatus) → b < length ks → Has states (map record_view rs) (g + b) d t x → ⊥) → record_view r ≡ used g (forks (length ks))
      → HasForked states (with_block g ks (slice_set states i p)) (map record_view rs) (map record_view (with_block g born (slice_set rs i r))) i g p ks
  -- a fork has closed whose record says what came of it, and whose children's records are free
  pub close : (rp : Path) (states : List S) (rs ss : List Record) (root : Node S) (i g n f : ℕ) (l s : S) (k : ProcessStatus) (r : Record) → Agrees o rp states (map record_view rs) root
      → Has states (map record_view rs) i g l (forks n) → IsFreed g n rs ss → record_view r ≡ used f k
      → HasClosed states (slice_set states i s) (map record_view rs) (map record_view (slice_set ss i r)) i g n s k

-- The pairs of a new fork have the counts with which it begins. Their labels are those of children that all live.
abbrev pub ForkInitialCounts : {S : Type 0} → Ops S → Type 0
ForkInitialCounts {S} o = (p : S) (ks : List S) (pairs : List Pair) → FreshPairs o p ks pairs → (c : Channel) → AreOf o c p (all_live ks) (tally_for c pairs) × (min_label_of (pair_of c pairs) ≡ min_dead_label_among o c (all_live ks))
