-- Whether a process dies of an exception, and what a child's poison asks for.
use Rattle.std.specs.Prelude.{◌≡◌, ◌-◌, ◌<◌, ℕ, Bool, true, false}
use Rattle.shim_base.specs.Paths.{Channel}
use Rattle.shim_local.specs.Process.{Ops}
use Rattle.shim_semantics.specs.Trees.{Poison}
use Rattle.shim_laws_table.specs.NodeStatus.{ProcessStatus, lives}
use Rattle.shim_laws_table_events.specs.keeping.Tables.{TableView, HasProcessState}
use Rattle.shim_laws_table_events.specs.keeping.Moves.{Performs}
use Rattle.shim_laws_table_events.specs.meetings.Meetings.{IsEnabled}
use Rattle.shim_laws_table_events.specs.meetings.Poisons.{IsChildOf}

-- the process with this number lives and has no handler for exceptions with this label; or it doesn't live, or has one
abbrev pub IsKilledBy : {S : Type 0} → Ops S → ℕ → ℕ → TableView S → Bool → Type 0
IsKilledBy {S} o label i v true = (f : ℕ) × (l : S) × HasProcessState v i f l lives × (label < o.base l)
IsKilledBy {S} o label i v false = (f : ℕ) (l : S) → HasProcessState v i f l lives → label < o.base l → ⊥

-- the process with this number is a child whose poison on the channel is enabled, and the label is the innermost one in force at the fork that made it
pub record CanPoison {S : Type 0} (o : Ops S) (c : Channel) (label i : ℕ) (v : TableView S) : Type 0 where
  pub child : S
  pub parent : S
  pub is_child : IsChildOf v i child parent
  pub is_label : label ≡ o.handlers parent - 1
  pub enabled : IsEnabled o (Poison (o.path child) c) v

-- the tree moved by the poison of the process with this number
abbrev pub PoisonsAt : {S : Type 0} → Ops S → Channel → ℕ → TableView S → TableView S → Type 0
PoisonsAt {S} o c i before after = (f : ℕ) (k : S) (x : ProcessStatus) → HasProcessState before i f k x → Performs o (Poison (o.path k) c) before after
