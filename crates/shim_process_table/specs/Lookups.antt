-- What readers of one process ask, and what they answer.
use Rattle.std.specs.Prelude.{◌≡◌, ◌≤◌, ◌<◌, ℕ, Option, Some, None, List, slice_get, length}
use Rattle.shim_laws_table.specs.NodeStatus.{ProcessStatus, forks}
use Rattle.shim_records.specs.Members.{IsAmong}
use Rattle.shim_records.specs.Pairs.{up_in}
use Rattle.shim_records.specs.declared.pair.Pair.{Pair}
use Rattle.shim_records.specs.declared.record.Record.{Record}
use Rattle.shim_laws_table_events.specs.keeping.Tables.{TableView, HasProcessState}

-- there is a process with this number
abbrev pub IsInUse : {S : Type 0} → TableView S → ℕ → Type 0
IsInUse {S} v i = (f : ℕ) × (s : S) × (k : ProcessStatus) × HasProcessState v i f s k

-- a list has an item for the number of each process
abbrev pub IsForAll : {S A : Type 0} → TableView S → List A → Type 0
IsForAll {S} v xs = (i : ℕ) → IsInUse v i → i < length xs

-- there is a process with this number, and it has forked
abbrev pub HasForkedAt : {S : Type 0} → TableView S → ℕ → Type 0
HasForkedAt {S} v i = (first : ℕ) × (n : ℕ) × (l : S) × HasProcessState v i first l (forks n)

-- the first number of c is that of the first child, the second is how many children there are
abbrev pub ChildrenAre : ℕ × ℕ → ℕ → ℕ → Type 0
ChildrenAre c first n = (c.0 ≡ first) × (c.1 ≡ n)

-- there is a process with each of these numbers
abbrev pub AreInUse : {S : Type 0} → TableView S → List ℕ → Type 0
AreInUse v numbers = (i : ℕ) → IsAmong i numbers → IsInUse v i

-- the process with this number has forked, and this is a pair of its record
pub record HasPair {S : Type 0} (v : TableView S) (i first n : ℕ) (l : S) (q : ℕ) (y : Pair) : Type 0 where
  pub forked : HasProcessState v i first l (forks n)
  pub said : Record
  pub there : slice_get v.records i ≡ Some said
  pub pair : slice_get said.pairs.items q ≡ Some y

-- the process with this number has forked, and its record has a pair at the place q
abbrev pub HasPairAt : {S : Type 0} → TableView S → ℕ → ℕ → Type 0
HasPairAt {S} v i q = (first : ℕ) × (n : ℕ) × (l : S) × (y : Pair) × HasPair v i first n l q y

-- the number of the record's parent, if there is a record with that number
abbrev pub ParentIs : List Record → ℕ → Option ℕ → Type 0
ParentIs rs i None = (j : ℕ) → up_in rs i ≡ Some j → length rs ≤ j
ParentIs rs i (Some j) = (up_in rs i ≡ Some j) × (j < length rs)
