-- What records keep where a fork closes, and where free ones at the end are cut off.
use Rattle.std.specs.Prelude.{◌≡◌, ◌≤◌, ℕ, Some, List, slice_get, slice_set, take, map}
use Rattle.shim_base.specs.Paths.{Path}
use Rattle.shim_local.specs.Process.{Ops}
use Rattle.shim_semantics.specs.Nodes.{Node, state}
use Rattle.shim_semantics.specs.Acts.{Acted, closed}
use Rattle.shim_semantics.specs.Trees.{Tree, Close, after}
use Rattle.shim_laws_table.specs.NodeStatus.{forks, process_status}
use Rattle.shim_laws_table.specs.Agrees.{free}
use Rattle.shim_laws_table.specs.Changes.{segment, prevailing_among}
use Rattle.shim_records.specs.Acted.{AllUpdated}
use Rattle.shim_records.specs.Pairs.{record_view}
use Rattle.shim_records.specs.declared.record.Record.{Record}
use Rattle.shim_laws_table_events.specs.keeping.Tables.{HasProcessState, TableInvariant}
use Rattle.shim_laws_table_events.specs.closes.Closing.{AreFreed, HasCome, CountsOffIfOver, RecomputedIf}

-- Of the fork of l, with the record i, no child goes on. Its children's records were freed. Its own has the new state and status, and where it died, its parent counts one less. Above it the counts were brought up to date, and where a child died the labels. Then the fork can close, and the records keep the table invariant of the tree after that.
abbrev pub ClosePreserves : {S : Type 0} → Ops S → Type 0
ClosePreserves {S} o = (rp : Path) (t : Tree S) (states : List S) (rs freed left between behind : List Record) (i g n : ℕ) (l : S) (q r : Record) (a : Acted S) → TableInvariant o rp (record { states = states; records = rs }) t.root
    → HasProcessState (record { states = states; records = rs }) i g l (forks n) → slice_get rs i ≡ Some q → q.going_children ≡ 0 → a ≡ closed o l (segment g n states) (prevailing_among (segment g n (map record_view rs)))
    → AreFreed g n rs freed → HasCome q r (process_status a.node) → CountsOffIfOver (process_status a.node) i (slice_set freed i r) left → AllUpdated o (state a.node) (process_status a.node) 4294967295 i left between
    → RecomputedIf (prevailing_among (segment g n (map record_view rs))) o (slice_set states i (state a.node)) (state a.node) 4294967295 i between behind
    → (u : Tree S) × (after o (Close (o.path l)) t ≡ Some u) × TableInvariant o rp (record { states = slice_set states i (state a.node); records = behind }) u.root

-- If all records from the number m on are free, the first m states and records keep the table invariant of the same tree.
abbrev pub TruncatePreserves : {S : Type 0} → Ops S → Type 0
TruncatePreserves {S} o = (rp : Path) (root : Node S) (states : List S) (rs : List Record) (m : ℕ) → TableInvariant o rp (record { states = states; records = rs }) root → ((i : ℕ) (r : Record) → m ≤ i → slice_get rs i ≡ Some r → record_view r ≡ free)
    → TableInvariant o rp (record { states = take m states; records = take m rs }) root
