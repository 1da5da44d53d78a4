-- What a run makes of a net.
use Rattle.std.specs.Prelude.{◌≡◌, ◌⊎◌}
use Rattle.shim_local.specs.Process.{Ops}
use Rattle.shim_net.specs.Nets.{NetView, IsNet}
use Rattle.shim_net.specs.Standings.{IsQuiescentNet, IsSpentNet}

-- the second net began as the first one did, and has come to its end
pub record RunsToEnd {S : Type 0} (o : Ops S) (before after : NetView S) : Type 0 where
  pub root : after.root ≡ before.root
  pub budget : after.budget ≡ before.budget
  pub quiescent_or_spent : IsQuiescentNet o after ⊎ IsSpentNet o after
  pub keeps : IsNet o after
