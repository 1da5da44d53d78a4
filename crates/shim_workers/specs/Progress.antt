-- What is asked of the grants of a net while it is run in rounds, and what a piece in place does.
use Rattle.std.specs.Prelude.{◌≡◌, ◌≤◌, ◌<◌, ℕ, Option, Some, None, List}
use Rattle.std.specs.List.{All}
use Rattle.shim_local.specs.Process.{Ops, AtQuiet}
use Rattle.shim_semantics.specs.Trees.{steps}
use Rattle.shim_net.specs.Nets.{OpenGrant, NetView}
use Rattle.shim_net.specs.Granting.{GivesNone}
use Rattle.shim_net.specs.Progress.{CanGive}

-- some step was granted to a process that stood before a quiet step
pub record HasSteps {S : Type 0} (o : Ops S) (g : OpenGrant S) : Type 0 where
  pub some : 1 ≤ g.most
  pub stop : o.stop g.start ≡ AtQuiet

-- each of these grants gave some step to a process before a quiet step
abbrev pub HaveSteps : {S : Type 0} → Ops S → List (OpenGrant S) → Type 0
HaveSteps o grants = All (HasSteps o) grants

-- the grants have slots below this one
abbrev pub HaveSlotsBelow : {S : Type 0} → ℕ → List (OpenGrant S) → Type 0
HaveSlotsBelow slot grants = All (λ g. g.slot < slot) grants

-- None: no step was left or no process was at home, and nothing has changed. Some: a process was at home, and the tree has more steps now.
abbrev pub StepsOn : {S : Type 0} → Ops S → NetView S → NetView S → Option ℕ → Type 0
StepsOn o before after None = GivesNone o before after
StepsOn o before after (Some taken) = CanGive o before × (steps before.tree < steps after.tree)
