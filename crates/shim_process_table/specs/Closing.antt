-- What a close of a fork did, and what its parts do to states and records.
use Rattle.std.specs.Prelude.{◌≡◌, ◌≢◌, ◌<◌, ◌+◌, ℕ, Bool, Option, Some, List, length, slice_get, slice_set}
use Rattle.shim_local.specs.Process.{Ops}
use Rattle.shim_semantics.specs.Nodes.{Live, Death, state}
use Rattle.shim_semantics.specs.Acts.{Acted, Effects, nothing, closed}
use Rattle.shim_semantics.specs.Trees.{Close}
use Rattle.shim_laws_table.specs.NodeStatus.{ProcessStatus, lives, forks, dies, process_status}
use Rattle.shim_laws_table.specs.Changes.{HasClosed, segment, prevailing_among}
use Rattle.shim_laws_table.specs.Agrees.{free}
use Rattle.shim_records.specs.Acted.{process_status_of, AllUpdated}
use Rattle.shim_records.specs.Pairs.{record_view}
use Rattle.shim_records.specs.declared.record.Record.{Record}
use Rattle.shim_records.specs.declared.record.Status.{Status}
use Rattle.shim_laws_table_events.specs.keeping.Tables.{TableView, HasProcessState, views}
use Rattle.shim_laws_table_events.specs.keeping.Moves.{Performs}
use Rattle.shim_laws_table_events.specs.closes.Closing.{HasCome, CountsOffIfOver, RecomputedIf}
use Rattle.shim_process_table.specs.Touching.{ChangesOnlyAbove}
use Rattle.shim_process_table.specs.Acting.{status_by_throw, throw_effects, thrown_by}
use Rattle.shim_process_table.specs.declared.acting.Thrown.TheVariants as thrown
use Rattle.shim_process_table.specs.declared.closing.CloseOutcome.{CloseOutcome}
use Rattle.shim_process_table.specs.declared.closing.CloseOutcome.TheVariants.{GoesOn, Threw}

-- the process with this number has forked, and none of its children goes on
pub record CanClose {S : Type 0} (v : TableView S) (number : ℕ) : Type 0 where
  pub first : ℕ
  pub many : ℕ
  pub process : S
  pub said : Record
  pub forked : HasProcessState v number first process (forks many)
  pub there : slice_get v.records number ≡ Some said
  pub none_goes : said.going_children ≡ 0

-- the effects of a close with this outcome
abbrev pub close_effects : CloseOutcome → Effects
close_effects GoesOn = nothing
close_effects (Threw t) = throw_effects t

-- the process has this status after a close with this outcome
abbrev pub ClosedAs : CloseOutcome → ProcessStatus → Type 0
ClosedAs GoesOn k = k ≡ lives
ClosedAs (Threw (thrown.Caught name line)) k = k ≡ lives
ClosedAs (Threw (thrown.Died d)) k = k ≡ dies d
ClosedAs (Threw thrown.Trapped) k = k ≡ lives

-- The fork of the process with this number closed with this outcome. The close leads from the tree before to the tree after. No processes but its children are gone. Of the records that are still in use none has changed but its own and those of the first n forks above.
pub record ClosesAt {S : Type 0} (o : Ops S) (n number : ℕ) (outcome : CloseOutcome) (before after : TableView S) : Type 0 where
  pub first : ℕ
  pub many : ℕ
  pub process : S
  pub forked : HasProcessState before number first process (forks many)
  pub left : Acted S
  pub does : left ≡ closed o process (segment first many before.states) (prevailing_among (segment first many (views before)))
  pub path : o.path (state left.node) ≡ o.path process
  pub apart : (b : ℕ) → b < many → number ≢ first + b
  pub effects_are : left.effects ≡ close_effects outcome
  pub came : ClosedAs outcome (process_status left.node)
  pub becomes : HasClosed before.states after.states (views before) (views after) number first many (state left.node) (process_status left.node)
  pub moves : Performs o (Close (o.path process)) before after
  pub touches : ChangesOnlyAbove n number before after

-- the record at the end, where there is one, is in use
abbrev pub EndsInUse : {S : Type 0} → TableView S → Type 0
EndsInUse v = (i : ℕ) (r : Record) → length v.records ≡ i + 1 → slice_get v.records i ≡ Some r → record_view r ≢ free

-- ---- the parts

-- the node and the effects after a close with this outcome, where the process then has this state
abbrev pub acted_by : {S : Type 0} → CloseOutcome → S → Acted S
acted_by GoesOn s = record { node = Live s; effects = nothing }
acted_by (Threw t) s = thrown_by t s

-- the status of the process after a close with this outcome, as a function
abbrev pub status_by_close : CloseOutcome → ProcessStatus
status_by_close GoesOn = lives
status_by_close (Threw t) = status_by_throw t

-- the process p has the values of its n children again, whose states lie together from g on; `goes_on` says whether it then stands after the fork, or still at it
abbrev pub HasJoined : {S : Type 0} → Ops S → ℕ → ℕ → ℕ → Bool → List S → List S → Type 0
HasJoined {S} o p g n goes_on before after = (l : S) → slice_get before p ≡ Some l → after ≡ slice_set before p (o.join l (segment g n before) goes_on)

-- The process p has the values of its children again. If a death prevailed among them, its exception was thrown in p. The outcome is that of this close.
abbrev pub TakesBack : {S : Type 0} → Ops S → ℕ → ℕ → ℕ → Option Death → CloseOutcome → List S → List S → Type 0
TakesBack {S} o p g n death outcome before after = (l : S) → slice_get before p ≡ Some l → (s : S) × (after ≡ slice_set before p s) × (acted_by outcome s ≡ closed o l (segment g n before) death)

-- The record at the place `at` has this status, and no pairs. If the status is an end or a death, the parent counts one child less that goes on. Then the counts above are updated. If a child died (`d`), the labels above are then read off again.
pub record ClosesRecord {S : Type 0} (o : Ops S) (states : List S) (at : ℕ) (status : Status) (d : Option Death) (before after : List Record) : Type 0 where
  pub process : S
  pub was : Record
  pub is : Record
  pub left : List Record
  pub between : List Record
  pub state_is : slice_get states at ≡ Some process
  pub there : slice_get before at ≡ Some was
  pub come : HasCome was is (process_status_of status)
  pub leaves : CountsOffIfOver (process_status_of status) at (slice_set before at is) left
  pub walked : AllUpdated o process (process_status_of status) 4294967295 at left between
  pub again : RecomputedIf d o states process 4294967295 at between after
