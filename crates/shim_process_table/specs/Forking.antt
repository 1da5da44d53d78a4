-- What a fork in place did.
use Rattle.std.specs.Prelude.{◌≡◌, ◌<◌, ◌≤◌, ℕ, ◌+◌, Some, List, slice_get, slice_set, length}
use Rattle.shim_local.specs.Process.{Ops, AtFork, Parted, Trapped}
use Rattle.shim_local.specs.Views.{ForkGives}
use Rattle.shim_local.specs.declared.local.Forked.{Forked}
use Rattle.shim_local.specs.declared.local.Forked.TheVariants as forked_view
use Rattle.shim_semantics.specs.Trees.{Own}
use Rattle.shim_laws_table.specs.NodeStatus.{ProcessStatus, lives}
use Rattle.shim_laws_table.specs.Agrees.{free}
use Rattle.shim_laws_table.specs.Changes.{HasForked}
use Rattle.shim_records.specs.Pairs.{record_view}
use Rattle.shim_records.specs.declared.record.Record.{Record}
use Rattle.shim_laws_table_events.specs.keeping.Tables.{TableView, HasProcessState, views}
use Rattle.shim_laws_table_events.specs.keeping.Moves.{Performs}
use Rattle.shim_process_table.specs.Touching.{ChangesOnlyAbove, ChangesOnlyForking}
use Rattle.shim_process_table.specs.declared.forking.ForkOutcome.{ForkOutcome}
use Rattle.shim_process_table.specs.declared.forking.ForkOutcome.TheVariants as outcome

-- The process with this number forked into so many, which have numbers from the first one on that weren't in use; every other process has its number and all that it had. Of the other records in use none has changed but those of the first n forks above.
pub record HasForkedHere {S : Type 0} (o : Ops S) (n number first count : ℕ) (before after : TableView S) : Type 0 where
  pub was_first : ℕ
  pub was : S
  pub is : S
  pub born : List S
  pub lived : HasProcessState before number was_first was lives
  pub stop_was : o.stop was ≡ AtFork
  pub forked : o.fork was ≡ Parted is born
  pub many : length born ≡ count
  pub fits : first + count ≤ 4294967295
  pub unused : (b d : ℕ) (t : S) (k : ProcessStatus) → b < count → HasProcessState before (first + b) d t k → ⊥
  pub becomes : HasForked before.states after.states (views before) (views after) number first is born
  pub moves : Performs o (Own (o.path was)) before after
  pub touches : ChangesOnlyForking n number first count before after

-- The process with this number was at a fork, which trapped, and it lives on in the state `is`. No record and no other state has changed.
pub record HasTrappedHere {S : Type 0} (o : Ops S) (number : ℕ) (before after : TableView S) : Type 0 where
  pub first : ℕ
  pub was : S
  pub is : S
  pub lived : HasProcessState before number first was lives
  pub stop_was : o.stop was ≡ AtFork
  pub trapped : o.fork was ≡ Trapped is
  pub behind_is : after ≡ record { states = slice_set before.states number is; records = before.records }
  pub moves : Performs o (Own (o.path was)) before after
  pub touches : ChangesOnlyAbove 0 number before after

-- the process with this number forked, or its fork trapped, as the outcome says
abbrev pub ForksHere : {S : Type 0} → Ops S → ℕ → ℕ → TableView S → TableView S → ForkOutcome → Type 0
ForksHere {S} o n number before after (outcome.Forked first count) = HasForkedHere o n number first count before after
ForksHere {S} o n number before after outcome.Trapped = HasTrappedHere o number before after

-- how many children there are where a fork comes to this
abbrev pub forked_count : {S : Type 0} → Forked S → ℕ
forked_count (forked_view.Children ks) = length ks
forked_count forked_view.Trapped = 0

-- the process with this number lives and is at a fork, which leaves the process in this state, and comes to these children or to a trap
abbrev pub ForkComesTo : {S : Type 0} → Ops S → TableView S → ℕ → S → Forked S → Type 0
ForkComesTo {S} o v i p came = (f : ℕ) × (l : S) × HasProcessState v i f l lives × (o.stop l ≡ AtFork) × ForkGives o l p came

-- Of the n numbers from g on, each that has a record has a free one. g is at most the number of records.
pub record IsFreeBlock (g n : ℕ) (rs : List Record) : Type 0 where
  pub inside : g ≤ length rs
  pub free_ones : (b : ℕ) (r : Record) → b < n → slice_get rs (g + b) ≡ Some r → record_view r ≡ free

-- The process with this number lives and is at a fork. The fork leaves it in the state p, with the children ks.
abbrev pub ForkedTo : {S : Type 0} → Ops S → ℕ → S → List S → TableView S → Type 0
ForkedTo {S} o i p ks v = (f : ℕ) × (l : S) × HasProcessState v i f l lives × (o.stop l ≡ AtFork) × (o.fork l ≡ Parted p ks)
