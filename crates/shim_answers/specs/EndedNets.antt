-- Nets at which a schedule of a run has ended, and what is read off them.
use Rattle.std.specs.Prelude.{◌≡◌, ◌⊎◌}
use Rattle.shim_process.specs.Forks.{root}
use Rattle.shim_process.specs.LocalState.{LocalState}
use Rattle.shim_process.specs.Ops.{process_ops}
use Rattle.shim_local.specs.declared.Ended.{Ended}
use Rattle.shim_reference.specs.Naming.{named}
use Rattle.shim_semantics.specs.Endings.{ended}
use Rattle.shim_net.specs.Nets.{IsNet, NetView}
use Rattle.shim_net.specs.Standings.{IsQuiescentNet, IsSpentNet}
use Rattle.shim_front_end.specs.Source.{Source}
use Rattle.shim_results.specs.RunEnds.{Execution}

-- the net of a run of this execution, at which no event is enabled or the budget is spent
pub record IsEndedNet (x : Execution) (n : NetView LocalState) : Type 0 where
  pub root_is : n.root ≡ root x.source x.input
  pub budget_is : n.budget ≡ x.budget
  pub keeps : IsNet process_ops n
  pub quiescent_or_spent : IsQuiescentNet process_ops n ⊎ IsSpentNet process_ops n

-- what is read off a net of a run of this source
abbrev pub end_of_net : Source → NetView LocalState → Ended
end_of_net source n = named source.main_throws (ended process_ops n.tree)
