-- States and records side by side, the tree that they show, and what records keep of it.
use Rattle.std.specs.Prelude.{◌≡◌, ◌≤◌, ℕ, Some, None, List, [], slice_get, length, map}
use Rattle.shim_base.specs.Paths.{Path, Channel}
use Rattle.shim_local.specs.Process.{Ops}
use Rattle.shim_semantics.specs.Nodes.{Node, Nodes, Forked}
use Rattle.shim_semantics.specs.Places.{at}
use Rattle.shim_laws_table.specs.NodeStatus.{ProcessStatus, lives, forks, place}
use Rattle.shim_laws_table.specs.Agrees.{RecordView, used, Has, Represents}
use Rattle.shim_laws_table.specs.Counts.{going_of}
use Rattle.shim_laws_table.specs.Tallied.{Tallied, HaveCounts}
use Rattle.shim_laws_table.specs.Updating.{AreLinked, AreAtMost}
use Rattle.shim_laws_table.specs.LoweredLabels.{Labelled}
use Rattle.shim_records.specs.Pairs.{record_view, up_in, counts_in, min_labels_in, known_in, AreOrdered}
use Rattle.shim_records.specs.declared.record.Record.{Record}
use Rattle.shim_laws_table_events.specs.keeping.Knowing.{AreKnown}

-- a process's number is its place in both
pub record TableView (S : Type 0) : Type 0 where
  pub states : List S
  pub records : List Record

-- what the records say of their processes
abbrev pub views : {S : Type 0} → TableView S → List RecordView
views v = map record_view v.records

-- The record with this number is in use, with this first child, state and status.
abbrev pub HasProcessState : {S : Type 0} → TableView S → ℕ → ℕ → S → ProcessStatus → Type 0
HasProcessState v i first s k = Has v.states (views v) i first s k

-- what the records keep for a channel is right: there are counts just where they belong, and they and the labels are those of the tree
pub record IsRight {S : Type 0} (o : Ops S) (rp : Path) (v : TableView S) (root : Node S) (c : Channel) : Type 0 where
  pub there : HaveCounts o rp v.states (views v) c (counts_in c v.records) root
  pub counts : Tallied o rp v.states (views v) c (counts_in c v.records) root
  pub labels : Labelled o rp v.states (views v) c (counts_in c v.records) (min_labels_in c v.records) root

-- of each fork as many children go on as its record says
abbrev pub GoRight : {S : Type 0} → Ops S → Path → TableView S → Node S → Type 0
GoRight {S} o rp v root = (i f n : ℕ) (s l : S) (ks : Nodes S) (r : Record) → HasProcessState v i f s (forks n) → slice_get v.records i ≡ Some r → at (place o rp s) root ≡ Some (Forked l ks) → r.going_children ≡ going_of ks

-- a record in use has the path of its process, which isn't too far from the root, and wasn't given too many channels
pub record IsFit {S : Type 0} (o : Ops S) (rp : Path) (s : S) (r : Record) : Type 0 where
  pub path : r.path ≡ o.path s
  pub near : length (place o rp s) ≤ 4294967295
  pub few : length (o.given s) ≤ 18446744073709551615

-- The states and records represent a sound tree, and all counts, labels, links and paths of the records are those of that tree. The root's path is rp.
pub record TableInvariant {S : Type 0} (o : Ops S) (rp : Path) (v : TableView S) (root : Node S) : Type 0 where
  pub represents : Represents o rp v.states (views v) root
  pub linked : AreLinked v.states (views v) (up_in v.records)
  pub few : AreAtMost 4294967295 v.states (views v)
  pub ordered : AreOrdered v.records
  pub right : (c : Channel) → IsRight o rp v root c
  pub going_children : GoRight o rp v root
  pub known : (c : Channel) → AreKnown o rp v.states (views v) c (known_in c v.records) root
  pub fit : (i f : ℕ) (s : S) (k : ProcessStatus) (r : Record) → HasProcessState v i f s k → slice_get v.records i ≡ Some r → IsFit o rp s r
  pub beside : length v.states ≡ length v.records

-- the table invariant holds for some tree
abbrev pub HasTableInvariant : {S : Type 0} → Ops S → TableView S → Type 0
HasTableInvariant {S} o v = (rp : Path) × (root : Node S) × TableInvariant o rp v root

-- the record of a root that lives
pub record IsOfRoot {S : Type 0} (o : Ops S) (root : S) (r : Record) : Type 0 where
  pub lives_on : record_view r ≡ used 0 lives
  pub no_parent : r.parent ≡ None
  pub path : r.path ≡ o.path root
  pub no_pairs : r.pairs.items ≡ []
