-- What a call leaves as it is.
use Rattle.std.specs.Prelude.{◌≡◌, ◌≢◌, ◌⊎◌, ◌<◌, ◌≤◌, ℕ, ◌+◌, Bool, true, false, Some, None, List, length, map, slice_get}
use Rattle.std.specs.Option.{option_map}
use Rattle.shim_base.specs.Paths.{Channel}
use Rattle.shim_local.specs.Process.{Ops}
use Rattle.shim_semantics.specs.Nodes.{is_next}
use Rattle.shim_laws_table.specs.NodeStatus.{ProcessStatus}
use Rattle.shim_records.specs.Pairs.{up_in, rest_of, counts_in, counts_ready, min_labels_in}
use Rattle.shim_records.specs.Ways.{IsAbove, most_forks}
use Rattle.shim_records.specs.declared.record.Record.{Record}
use Rattle.shim_laws_table_events.specs.keeping.Tables.{TableView, HasProcessState}
use Rattle.shim_laws_table_events.specs.queues.Requeueing.{IsAsBefore}
use Rattle.shim_laws_table_events.specs.queues.NoMore.{IsNoReadier}
use Rattle.shim_laws_table_events.specs.queues.EventQueue.{is_listed}

-- Of the records in use none has changed but that with this number and those of the first n forks above it. There are no more records than before.
pub record ChangesOnlyAbove {S : Type 0} (n number : ℕ) (before after : TableView S) : Type 0 where
  pub others : (i f : ℕ) (s : S) (k : ProcessStatus) → HasProcessState after i f s k → i ≢ number → (IsAbove (up_in after.records) n number i → ⊥) → IsAsBefore before after i
  pub no_more : length after.records ≤ length before.records

-- No record in use is readier than before but that with this number, and those of the first n forks above it. There are no more records than before.
pub record ReadiesAbove {S : Type 0} (o : Ops S) (n number : ℕ) (before after : TableView S) : Type 0 where
  pub others : (i f : ℕ) (s : S) (k : ProcessStatus) → HasProcessState after i f s k → i ≢ number → (IsAbove (up_in after.records) n number i → ⊥) → IsNoReadier o before after i
  pub no_more : length after.records ≤ length before.records

-- Of the records in use none has changed but that with this number, those of the first n forks above it, and those of `count` new children of its process. These have the numbers from the first one on, and that process as their parent. The list of records ends no later than before, or no later than with the last of these children.
pub record ChangesOnlyForking {S : Type 0} (n number first count : ℕ) (before after : TableView S) : Type 0 where
  pub others : (i f : ℕ) (s : S) (k : ProcessStatus) → HasProcessState after i f s k → i ≢ number → (IsAbove (up_in after.records) n number i → ⊥) → ((b : ℕ) → b < count → i ≢ first + b) → IsAsBefore before after i
  pub born : (b : ℕ) → b < count → up_in after.records (first + b) ≡ Some number
  pub no_more : (m : ℕ) → length before.records ≤ m → first + count ≤ m → length after.records ≤ m

-- No record has changed but those with these numbers and those of the forks above them. Each has the parent that it had, and there are as many as before.
pub record ChangesOnlyEach {S : Type 0} (numbers : List ℕ) (before after : TableView S) : Type 0 where
  pub parents : (i : ℕ) → up_in after.records i ≡ up_in before.records i
  pub as_many : length after.records ≡ length before.records
  pub others : (i : ℕ) → ((m at : ℕ) → slice_get numbers at ≡ Some m → (i ≢ m) × (IsAbove (up_in before.records) most_forks m i → ⊥)) → IsAsBefore before after i

-- What was listed is, and so are the first n forks above the number, and nothing else.
pub record ListsAbove {S : Type 0} (v : TableView S) (n number : ℕ) (old new : List Bool) : Type 0 where
  pub kept : (i : ℕ) → is_listed old i ≡ true → is_listed new i ≡ true
  pub above : (i : ℕ) → IsAbove (up_in v.records) n number i → is_listed new i ≡ true
  pub only : (i : ℕ) → is_listed new i ≡ true → (is_listed old i ≡ true) ⊎ IsAbove (up_in v.records) n number i
  pub as_many : length new ≡ length old

-- ---- the records alone

-- the record with this number has the same fields, counts and labels as before
pub record IsSameRecord (before after : List Record) (i : ℕ) : Type 0 where
  pub rest : option_map rest_of (slice_get after i) ≡ option_map rest_of (slice_get before i)
  pub counts : (c : Channel) → counts_in c after i ≡ counts_in c before i
  pub labels : (c : Channel) → min_labels_in c after i ≡ min_labels_in c before i

-- Only the record x and the first n forks above it may have other fields, counts or labels than before. Each record has the parent that it had, and there are as many as before.
pub record ChangesOnlyRecords (n x : ℕ) (before after : List Record) : Type 0 where
  pub parents : (i : ℕ) → up_in after i ≡ up_in before i
  pub as_many : length after ≡ length before
  pub others : (i : ℕ) → i ≢ x → (IsAbove (up_in before) n x i → ⊥) → IsSameRecord before after i

-- j is x, for whose process `mine` holds of the channel c, or the record j has become ready for c by its counts
abbrev pub HasReadiedWhere : (Channel → Type 0) → Channel → ℕ → List Record → List Record → ℕ → Type 0
HasReadiedWhere mine c x before after j = ((j ≡ x) × mine c) ⊎ ((counts_ready (counts_in c after j) ≡ true) × (counts_ready (counts_in c before j) ≡ false))

-- Nothing in the records has changed but counts. The process of the record x became ready for the channels of `mine`. Beyond the first n forks above x no record became ready by its counts. Beyond these forks no record has a label for a channel for which a child became ready.
pub record ReadiesRecords (mine : Channel → Type 0) (n x : ℕ) (before after : List Record) : Type 0 where
  pub rest : map rest_of after ≡ map rest_of before
  pub labels : (c : Channel) (i : ℕ) → min_labels_in c after i ≡ min_labels_in c before i
  pub counts : (c : Channel) (i : ℕ) → (IsAbove (up_in before) n x i → ⊥) → counts_ready (counts_in c after i) ≡ true → counts_ready (counts_in c before i) ≡ true
  pub children : (c : Channel) (i j : ℕ) → up_in before j ≡ Some i → (IsAbove (up_in before) n x i → ⊥) → HasReadiedWhere mine c x before after j → min_labels_in c before i ≡ None

-- the process of the record x came to the stop of the state s: `ReadiesRecords` holds for the channel of that stop
abbrev pub StopReadies : {S : Type 0} → Ops S → S → ℕ → ℕ → List Record → List Record → Type 0
StopReadies o s n x before after = ReadiesRecords (λ c. is_next (o.stop s) c ≡ true) n x before after

-- the process of the record x came from the channel c to the stop of the state s: `ReadiesRecords` holds for that stop's channel, unless it is c
abbrev pub MoveReadies : {S : Type 0} → Ops S → S → Channel → ℕ → ℕ → List Record → List Record → Type 0
MoveReadies o s c n x before after = ReadiesRecords (λ d. (is_next (o.stop s) d ≡ true) × (d ≢ c)) n x before after

-- ---- one process after the other

-- No record says anything else than before but that with the number x and those of the forks above it. No state has changed but that with the number x.
pub record ChangesOnlyOne {S : Type 0} (x : ℕ) (before after : TableView S) : Type 0 where
  pub records : ChangesOnlyRecords most_forks x before.records after.records
  pub states : (i : ℕ) → i ≢ x → slice_get after.states i ≡ slice_get before.states i
