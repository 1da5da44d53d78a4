-- What quiet steps in place did.
use Rattle.std.specs.Prelude.{◌≡◌, ◌≢◌, ℕ, Bool, true, false}
use Rattle.shim_local.specs.Process.{Ops, StopView, AtQuiet}
use Rattle.shim_local.specs.Quiets.{QuietSteps}
use Rattle.shim_laws_table.specs.NodeStatus.{ProcessStatus, lives}
use Rattle.shim_laws_table.specs.Changes.{HasChanged}
use Rattle.shim_records.specs.declared.record.Status.{Status}
use Rattle.shim_records.specs.declared.record.Status.TheVariants as code
use Rattle.shim_laws_table_events.specs.keeping.Tables.{TableView, views, HasProcessState}
use Rattle.shim_laws_table_events.specs.keeping.Moves.{PerformsQuiet}

-- the process with this number has this state and status now, and no other process has changed
abbrev pub HasBecome : {S : Type 0} → ℕ → S → ProcessStatus → TableView S → TableView S → Type 0
HasBecome number s k before after = HasChanged before.states after.states (views before) (views after) number s k

-- the process with this number lives, and is at this stop
abbrev pub LivesAt : {S : Type 0} → Ops S → TableView S → ℕ → StopView → Type 0
LivesAt {S} o v number stop = (f : ℕ) × (l : S) × HasProcessState v number f l lives × (o.stop l ≡ stop)

-- whether the process with this number lives
abbrev pub IsLive : {S : Type 0} → ℕ → TableView S → Bool → Type 0
IsLive {S} i v true = (f : ℕ) × (l : S) × HasProcessState v i f l lives
IsLive {S} i v false = (f : ℕ) (l : S) → HasProcessState v i f l lives → ⊥

-- whether the process with this number lives and has a quiet step to do
abbrev pub IsBeforeQuiet : {S : Type 0} → Ops S → ℕ → TableView S → Bool → Type 0
IsBeforeQuiet {S} o i v true = LivesAt o v i AtQuiet
IsBeforeQuiet {S} o i v false = (f : ℕ) (l : S) → HasProcessState v i f l lives → o.stop l ≢ AtQuiet

-- The process with this number lived and was before a quiet step, it did so many, no other process has changed, and the tree moves by these.
pub record StepsAt {S : Type 0} (o : Ops S) (number taken : ℕ) (before after : TableView S) : Type 0 where
  pub first : ℕ
  pub process : S
  pub last : S
  pub has : HasProcessState before number first process lives
  pub stop_was : o.stop process ≡ AtQuiet
  pub chain : QuietSteps o taken process last
  pub becomes : HasBecome number last lives before after
  pub advances : PerformsQuiet o (o.path process) taken before after

-- The process with this number lives, is before a quiet step, and comes to this state by so many.
pub record QuietlyReaches {S : Type 0} (o : Ops S) (v : TableView S) (number taken : ℕ) (last : S) : Type 0 where
  pub first : ℕ
  pub process : S
  pub has : HasProcessState v number first process lives
  pub stop_is : o.stop process ≡ AtQuiet
  pub chain : QuietSteps o taken process last

-- a process with this status lives
abbrev pub is_live : Status → Bool
is_live code.Free = false
is_live code.Live = true
is_live (code.Forked n) = false
is_live code.Ended = false
is_live (code.Dead x) = false
