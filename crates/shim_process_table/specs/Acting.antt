-- What one live process did by itself, as an event.
use Rattle.std.specs.Prelude.{◌≡◌, ℕ, Some}
use Rattle.shim_base.specs.declared.operators.Trap.{Trap}
use Rattle.shim_local.specs.Process.{Ops, StopView, AtTrap}
use Rattle.shim_semantics.specs.Nodes.{Node, Live, Dead, state}
use Rattle.shim_semantics.specs.Acts.{Acted, Effects, nothing, catch_logged, act_live}
use Rattle.shim_laws_table.specs.NodeStatus.{ProcessStatus, lives, dies, process_status}
use Rattle.shim_laws_table_events.specs.keeping.Tables.{TableView, HasProcessState}
use Rattle.shim_laws_table_events.specs.keeping.Moves.{Performs}
use Rattle.shim_laws_table_events.specs.keeping.Acting.{event_at_stop}
use Rattle.shim_process_table.specs.Stepping.{LivesAt, HasBecome}
use Rattle.shim_process_table.specs.Touching.{ReadiesAbove}
use Rattle.shim_process_table.specs.declared.acting.Thrown.{Thrown}
use Rattle.shim_process_table.specs.declared.acting.Thrown.TheVariants as thrown

-- the process with this number lives, and is trapped
abbrev pub IsTrappedAt : {S : Type 0} → Ops S → TableView S → ℕ → Type 0
IsTrappedAt o v number = (kind : Trap) × (line : ℕ) × LivesAt o v number (AtTrap kind line)

-- The live process with this number was at this stop and did the one thing that it can do by itself. It has this status now, and these are the effects. The tree moves by the event of that act (`event_at_stop`), and no other process has changed. No record in use is readier than before but its own and those of the first n forks above. There are no more records than before.
pub record ActsAlone {S : Type 0} (o : Ops S) (n number : ℕ) (stop : StopView) (k : ProcessStatus) (effects : Effects) (before after : TableView S) : Type 0 where
  pub first : ℕ
  pub process : S
  pub has : HasProcessState before number first process lives
  pub stop_was : o.stop process ≡ stop
  pub left : Node S
  pub does : act_live o process stop ≡ Some (record { node = left; effects = effects })
  pub came : process_status left ≡ k
  pub becomes : HasBecome number (state left) k before after
  pub moves : Performs o (event_at_stop stop (o.path process)) before after
  pub newly_ready : ReadiesAbove o n number before after

-- the status of a process after a throw with this outcome
abbrev pub status_by_throw : Thrown → ProcessStatus
status_by_throw (thrown.Caught name line) = lives
status_by_throw (thrown.Died d) = dies d
status_by_throw thrown.Trapped = lives

-- the effects of a throw with this outcome
abbrev pub throw_effects : Thrown → Effects
throw_effects (thrown.Caught name line) = catch_logged (name, line)
throw_effects (thrown.Died d) = nothing
throw_effects thrown.Trapped = nothing

-- the node and the effects after a throw with this outcome, where the process then has this state
abbrev pub thrown_by : {S : Type 0} → Thrown → S → Acted S
thrown_by (thrown.Caught name line) s = record { node = Live s; effects = catch_logged (name, line) }
thrown_by (thrown.Died d) s = record { node = Dead s d; effects = nothing }
thrown_by thrown.Trapped s = record { node = Live s; effects = nothing }
