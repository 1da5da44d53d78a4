-- How a net stands.
use Rattle.std.specs.Prelude.{◌≡◌, []}
use Rattle.shim_local.specs.Process.{Ops}
use Rattle.shim_semantics.specs.Trees.{steps, IsQuiescent}
use Rattle.shim_net.specs.Nets.{NetView}
use Rattle.shim_net.specs.declared.standing.Standing.{Standing}
use Rattle.shim_net.specs.declared.standing.Standing.TheVariants.{Running, Quiescent, Spent}

-- no grant is open, and no event is enabled
abbrev pub IsQuiescentNet : {S : Type 0} → Ops S → NetView S → Type 0
IsQuiescentNet o n = (n.grants ≡ []) × IsQuiescent o n.tree

-- no grant is open, the steps are the budget, and an event is enabled
abbrev pub IsSpentNet : {S : Type 0} → Ops S → NetView S → Type 0
IsSpentNet o n = (n.grants ≡ []) × (steps n.tree ≡ n.budget) × (IsQuiescent o n.tree → ⊥)

-- the net has the standing; it is `Running` where it is neither `Quiescent` nor `Spent`
abbrev pub StandsAs : {S : Type 0} → Ops S → NetView S → Standing → Type 0
StandsAs o n Running = (IsQuiescentNet o n → ⊥) × (IsSpentNet o n → ⊥)
StandsAs o n Quiescent = IsQuiescentNet o n
StandsAs o n Spent = IsSpentNet o n
