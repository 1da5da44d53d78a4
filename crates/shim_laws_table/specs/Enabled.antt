-- What can happen, read off records and the counts of forks; and that what becomes possible is at a record of which something has changed.
use Rattle.std.specs.Prelude.{◌≡◌, ◌≢◌, ◌↔◌, ◌⊎◌, ◌<◌, ℕ, ◌+◌, true, Some, None, List, []}
use Rattle.shim_base.specs.Paths.{Path, Channel}
use Rattle.shim_local.specs.Process.{Ops}
use Rattle.shim_semantics.specs.Nodes.{Node, Nodes, Forked, is_next, ready}
use Rattle.shim_semantics.specs.Places.{at, child_at}
use Rattle.shim_semantics.specs.Trees.{Tree, Event, Own, Meet, Poison, Close, End, Steps, Ends, own_action_at, after}
use Rattle.shim_laws_table.specs.NodeStatus.{ProcessStatus, lives, forks, place}
use Rattle.shim_laws_table.specs.Agrees.{RecordView, Has, Represents}
use Rattle.shim_laws_table.specs.Counts.{tally_of, going_of, tally_ready}
use Rattle.shim_laws_table.specs.Dooms.{min_dead_label_among, is_below}

-- the event is enabled in the tree
abbrev pub Can : {S : Type 0} → Ops S → Tree S → Event → Type 0
Can o t e = after o e t ≢ None

-- Which events are enabled, by the records that represent a tree. The stop of a live process decides whether it does a step of its own or ends. A fork closes exactly if none of its children goes on. A channel has a rendezvous exactly if the process that declared it waits at it, or has forked and is ready by its counts. A child is poisoned exactly if its fork shares the channel, the child is ready, and the least label below the fork is in force there.
pub record EnabledByRecords {S : Type 0} (o : Ops S) : Type 0 where
  pub steps : (rp : Path) (records : List S) (views : List RecordView) (t : Tree S) (i f : ℕ) (l : S) → Represents o rp records views t.root → Has records views i f l lives → Can o t (Own (o.path l)) ↔ (own_action_at (o.stop l) ≡ Steps)
  pub ends : (rp : Path) (records : List S) (views : List RecordView) (t : Tree S) (i f : ℕ) (l : S) → Represents o rp records views t.root → Has records views i f l lives → Can o t (End (o.path l)) ↔ (own_action_at (o.stop l) ≡ Ends)
  pub closes : (rp : Path) (records : List S) (views : List RecordView) (t : Tree S) (i f n : ℕ) (l : S) (ks : Nodes S) → Represents o rp records views t.root → Has records views i f l (forks n) → at (place o rp l) t.root ≡ Some (Forked l ks)
      → Can o t (Close (o.path l)) ↔ (going_of ks ≡ 0)
  pub meets_alone : (rp : Path) (records : List S) (views : List RecordView) (t : Tree S) (c : Channel) (i f : ℕ) (l : S) → Represents o rp records views t.root → Has records views i f l lives → o.path l ≡ c.home → Can o t (Meet c) ↔ (is_next (o.stop l) c ≡ true)
  pub meets_forked : (rp : Path) (records : List S) (views : List RecordView) (t : Tree S) (c : Channel) (i f n : ℕ) (l : S) (ks : Nodes S) → Represents o rp records views t.root → Has records views i f l (forks n) → o.path l ≡ c.home → at (place o rp l) t.root ≡ Some (Forked l ks)
      → Can o t (Meet c) ↔ (tally_ready (tally_of o c ks) ≡ true)
  pub poisons : (rp : Path) (records : List S) (views : List RecordView) (t : Tree S) (c : Channel) (i g n b f : ℕ) (l k : S) (x : ProcessStatus) (ks : Nodes S) (m : Node S) → Represents o rp records views t.root → Has records views i g l (forks n) → Has records views (g + b) f k x → b < n
      → at (place o rp l) t.root ≡ Some (Forked l ks) → child_at b [] ks ≡ Some m → Can o t (Poison (o.path k) c) ↔ ((o.shares l c ≡ true) × (ready o c m ≡ true) × (is_below (min_dead_label_among o c ks) (o.handlers l) ≡ true))

-- The event is looked for at the record with this number: that of the process which does it, that of the channel's home, which lives or has forked, or that of the fork whose child is poisoned.
pub data IsAt {S : Type 0} (o : Ops S) (records : List S) (views : List RecordView) : Event → ℕ → Type 0 where
  at_step : (i f : ℕ) (l : S) (p : Path) → Has records views i f l lives → o.path l ≡ p → IsAt o records views (Own p) i
  at_end : (i f : ℕ) (l : S) (p : Path) → Has records views i f l lives → o.path l ≡ p → IsAt o records views (End p) i
  at_close : (i f n : ℕ) (l : S) (p : Path) → Has records views i f l (forks n) → o.path l ≡ p → IsAt o records views (Close p) i
  at_home : (i f : ℕ) (l : S) (k : ProcessStatus) (c : Channel) → Has records views i f l k → (k ≡ lives) ⊎ ((n : ℕ) × (k ≡ forks n)) → o.path l ≡ c.home → IsAt o records views (Meet c) i
  at_child : (i g n b f : ℕ) (l k : S) (x : ProcessStatus) (p : Path) (c : Channel) → Has records views i g l (forks n) → b < n → Has records views (g + b) f k x → o.path k ≡ p → IsAt o records views (Poison p c) i

-- each enabled event is found at a record
abbrev pub EnabledAreFound : {S : Type 0} → Ops S → Type 0
EnabledAreFound {S} o = (rp : Path) (records : List S) (views : List RecordView) (t : Tree S) (e : Event) → Represents o rp records views t.root → Can o t e → (i : ℕ) × IsAt o records views e i

-- Nothing new can happen at records that are as before. Of two trees that records represent:
pub record NothingNew {S : Type 0} (o : Ops S) : Type 0 where
  -- a live process with the same state has no new own step and no new end
  pub steps : (rp : Path) (before behind : List S) (old_views views : List RecordView) (t u : Tree S) (i f g : ℕ) (l : S) → Represents o rp before old_views t.root → Represents o rp behind views u.root → Has before old_views i f l lives → Has behind views i g l lives
      → (Can o u (Own (o.path l)) → Can o t (Own (o.path l))) × (Can o u (End (o.path l)) → Can o t (End (o.path l)))
  -- A fork with the same state has no new close, if as many of its children go on.
  pub closes : (rp : Path) (before behind : List S) (old_views views : List RecordView) (t u : Tree S) (i f g n : ℕ) (l : S) (ks js : Nodes S) → Represents o rp before old_views t.root → Represents o rp behind views u.root → Has before old_views i f l (forks n) → Has behind views i g l (forks n)
      → at (place o rp l) t.root ≡ Some (Forked l ks) → at (place o rp l) u.root ≡ Some (Forked l js) → going_of js ≡ going_of ks → Can o u (Close (o.path l)) → Can o t (Close (o.path l))
  -- A channel has no new rendezvous if the process that declared it lives with the same state, or has forked with the same state and counts.
  pub meets_alone : (rp : Path) (before behind : List S) (old_views views : List RecordView) (t u : Tree S) (c : Channel) (i f g : ℕ) (l : S) → Represents o rp before old_views t.root → Represents o rp behind views u.root → Has before old_views i f l lives → Has behind views i g l lives
      → o.path l ≡ c.home → Can o u (Meet c) → Can o t (Meet c)
  pub meets_forked : (rp : Path) (before behind : List S) (old_views views : List RecordView) (t u : Tree S) (c : Channel) (i f g n : ℕ) (l : S) (ks js : Nodes S) → Represents o rp before old_views t.root → Represents o rp behind views u.root → Has before old_views i f l (forks n) → Has behind views i g l (forks n)
      → o.path l ≡ c.home → at (place o rp l) t.root ≡ Some (Forked l ks) → at (place o rp l) u.root ≡ Some (Forked l js) → tally_of o c js ≡ tally_of o c ks → Can o u (Meet c) → Can o t (Meet c)
  -- A child has no new poison if its fork has the same state and least label, and the child is ready exactly if it was.
  pub poisons : (rp : Path) (before behind : List S) (old_views views : List RecordView) (t u : Tree S) (c : Channel) (i d g n b f h : ℕ) (l j k : S) (x y : ProcessStatus) (ks js : Nodes S) (m a : Node S) → Represents o rp before old_views t.root → Represents o rp behind views u.root
      → Has before old_views i d l (forks n) → Has behind views i g l (forks n) → b < n → Has before old_views (d + b) f j x → Has behind views (g + b) h k y → o.path k ≡ o.path j
      → at (place o rp l) t.root ≡ Some (Forked l ks) → at (place o rp l) u.root ≡ Some (Forked l js) → child_at b [] ks ≡ Some m → child_at b [] js ≡ Some a
      → ready o c a ≡ ready o c m → min_dead_label_among o c js ≡ min_dead_label_among o c ks → Can o u (Poison (o.path k) c) → Can o t (Poison (o.path j) c)
