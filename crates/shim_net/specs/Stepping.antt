-- Quiet steps of a process at home, in place.
use Rattle.std.specs.Prelude.{◌≡◌, ◌↔◌, ◌+◌, ◌-◌, ◌≤◌, ℕ, min, Option, Some, None}
use Rattle.shim_local.specs.Process.{Ops}
use Rattle.shim_local.specs.Quiets.{QuietSteps}
use Rattle.shim_local.specs.Pieces.{FewerWithCause}
use Rattle.shim_local.specs.declared.local.Quiet.{Quiet}
use Rattle.shim_semantics.specs.Trees.{steps}
use Rattle.shim_laws_replay.specs.Journals.{quiet_steps}
use Rattle.shim_net.specs.Nets.{NetView, reserved_in}
use Rattle.shim_net.specs.Granting.{GivesNone, IsAtHome}
use Rattle.shim_net.specs.Absorbing.{with_piece}

-- some process is at home, and this number may be its own: it is 0 exactly if that process is the root
pub record IsHomeNumber {S : Type 0} (o : Ops S) (n : NetView S) (pid : ℕ) : Type 0 where
  pub process : S
  pub home : IsAtHome o n.tree n.grants process
  pub root_is : (pid ≡ 0) ↔ (o.path process ≡ o.path n.root)

-- how many steps are neither taken nor reserved
abbrev pub left_of : {S : Type 0} → NetView S → ℕ
left_of n = n.budget - (steps n.tree + reserved_in n.grants)

-- Nothing has changed. A step is left, and this may be the number of a process at home; or there is no number, because nothing is left of the budget or no process is at home.
abbrev pub IsNextHome : {S : Type 0} → Ops S → NetView S → NetView S → Option ℕ → Type 0
IsNextHome o before after None = GivesNone o before after
IsNextHome o before after (Some pid) = (after ≡ before) × (1 ≤ left_of before) × IsHomeNumber o before pid

-- a process at home did as many quiet steps as the answer says, which are one entry of the journal; no steps are no entry
pub record StepsInPlace {S : Type 0} (o : Ops S) (before after : NetView S) (most : ℕ) (burst : Quiet) : Type 0 where
  pub process : S
  pub last : S
  pub home : IsAtHome o before.tree before.grants process
  pub left : 1 ≤ left_of before
  pub chain : QuietSteps o burst.taken process last
  pub within : burst.taken ≤ min most (left_of before)
  pub fewer : FewerWithCause o burst.taken (min most (left_of before)) burst.short last
  pub leads : quiet_steps o (o.path process) burst.taken before.tree ≡ Some after.tree
  pub after_is : after ≡ record { root = before.root; budget = before.budget; tree = after.tree; journal = with_piece (o.path process) burst.taken before.journal; grants = before.grants }

-- a process at home did quiet steps; or none did, because nothing is left of the budget or no process is at home
abbrev pub StepsHome : {S : Type 0} → Ops S → NetView S → NetView S → ℕ → Option Quiet → Type 0
StepsHome o before after most None = GivesNone o before after
StepsHome o before after most (Some burst) = StepsInPlace o before after most burst
