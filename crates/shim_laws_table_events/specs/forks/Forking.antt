-- How a process forks where states and records are side by side, and what comes of the tree that they show.
use Rattle.std.specs.Prelude.{◌≡◌, ◌<◌, ◌≤◌, ℕ, ◌+◌, true, false, Some, List, [], ◌∷◌, cond, slice_get, slice_set, length}
use Rattle.shim_base.specs.Paths.{Channel}
use Rattle.shim_local.specs.Process.{Ops, AtFork, Parted, Trapped}
use Rattle.shim_semantics.specs.Trees.{Own}
use Rattle.shim_laws_table.specs.NodeStatus.{ProcessStatus, lives, forks}
use Rattle.shim_laws_table.specs.Agrees.{used}
use Rattle.shim_laws_table.specs.Counts.{going_child_status, tally_ready}
use Rattle.shim_records.specs.Pairs.{tally, child_status_of, record_view}
use Rattle.shim_records.specs.Ways.{IsUpdatedAbove}
use Rattle.shim_records.specs.Fresh.{FreshPairs}
use Rattle.shim_records.specs.Blocks.{with_block}
use Rattle.shim_records.specs.declared.pair.Pair.{Pair}
use Rattle.shim_records.specs.declared.pair.ChildStatus.{ChildStatus}
use Rattle.shim_records.specs.declared.record.Record.{Record}
use Rattle.shim_laws_table_events.specs.keeping.Tables.{TableView, HasProcessState}
use Rattle.shim_laws_table_events.specs.keeping.Moves.{Performs}

-- the record of a child that has done nothing yet, made by the process with the number x
pub record IsOfChild {S : Type 0} (o : Ops S) (x : ℕ) (k : S) (r : Record) : Type 0 where
  pub lives_on : record_view r ≡ used 0 lives
  pub parent : r.parent ≡ Some x
  pub path : r.path ≡ o.path k
  pub no_pairs : r.pairs.items ≡ []

-- a child is not too far from the root, and wasn't given too many channels
pub record FitsRecords {S : Type 0} (o : Ops S) (k : S) : Type 0 where
  pub near : length (o.path k) ≤ 4294967295
  pub few : length (o.given k) ≤ 18446744073709551615

-- the records of all children, in their order
pub record AreOfChildren {S : Type 0} (o : Ops S) (x : ℕ) (ks : List S) (born : List Record) : Type 0 where
  pub as_many : length born ≡ length ks
  pub each : (b : ℕ) (k : S) (r : Record) → slice_get ks b ≡ Some k → slice_get born b ≡ Some r → IsOfChild o x k r
  pub within : (b : ℕ) (k : S) → slice_get ks b ≡ Some k → FitsRecords o k

-- the record of a process that has forked, whose first child has the number g
pub record IsOfFork {S : Type 0} (o : Ops S) (g : ℕ) (p : S) (ks : List S) (before r : Record) : Type 0 where
  pub forked : record_view r ≡ used g (forks (length ks))
  pub parent : r.parent ≡ before.parent
  pub path : r.path ≡ before.path
  pub going_children : r.going_children ≡ length ks
  pub pairs : FreshPairs o p ks r.pairs.items

-- the channels on which a fork with these pairs is ready
abbrev pub ready_chans : List Pair → List Channel
ready_chans [] = []
ready_chans (p ∷ ps) = cond (tally_ready (tally p)) (p.chan.channel ∷ ready_chans ps) (ready_chans ps)

-- For each of these channels the counts above the record x were updated, of a process that wasn't ready on it and is.
pub data EachUpdatedAbove (n x : ℕ) : List Channel → List Record → List Record → Type 0 where
  none_left : (rs : List Record) → EachUpdatedAbove n x [] rs rs
  one_more : (c : Channel) (cs : List Channel) (was is : ChildStatus) (before between after : List Record)
      → child_status_of was ≡ going_child_status false → child_status_of is ≡ going_child_status true
      → IsUpdatedAbove c n x was is before between → EachUpdatedAbove n x cs between after → EachUpdatedAbove n x (c ∷ cs) before after

-- The process with the number x forked and is as p: its children's states and records were put together from the number g on, in place of free ones or after all others, and the counts above follow.
pub record ForksAt {S : Type 0} (o : Ops S) (x g : ℕ) (p : S) (ks : List S) (before after : TableView S) : Type 0 where
  pub was : Record
  pub is : Record
  pub born : List Record
  pub had : slice_get before.records x ≡ Some was
  pub inside : g ≤ length before.records
  pub unused : (b d : ℕ) (t : S) (k : ProcessStatus) → b < length ks → HasProcessState before (g + b) d t k → ⊥
  pub few : length ks ≤ 4294967295
  pub children : AreOfChildren o x ks born
  pub parent : IsOfFork o g p ks was is
  pub states : after.states ≡ with_block g ks (slice_set before.states x p)
  pub records : EachUpdatedAbove 4294967295 x (ready_chans is.pairs.items) (with_block g born (slice_set before.records x is)) after.records

-- Where a live process forks and the states and records change with it (`ForksAt`), they perform its own step (`Performs`).
abbrev pub ForkPreserves : {S : Type 0} → Ops S → Type 0
ForkPreserves {S} o = (x g f : ℕ) (l p : S) (ks : List S) (before after : TableView S) → HasProcessState before x f l lives → o.stop l ≡ AtFork → o.fork l ≡ Parted p ks → ForksAt o x g p ks before after
    → Performs o (Own (o.path l)) before after

-- Where a fork traps, the process lives on in another state and no record changes. That performs its own step, too.
abbrev pub ForkTrapPreserves : {S : Type 0} → Ops S → Type 0
ForkTrapPreserves {S} o = (x f : ℕ) (l m : S) (before : TableView S) → HasProcessState before x f l lives → o.stop l ≡ AtFork → o.fork l ≡ Trapped m
    → Performs o (Own (o.path l)) before (record { states = slice_set before.states x m; records = before.records })
