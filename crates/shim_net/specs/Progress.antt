-- What becomes of a net while it is run, and when something can still be given out in it.
use Rattle.std.specs.Prelude.{◌≡◌, ◌≤◌, ◌<◌, ◌+◌, ◌⊎◌, Some, List, ◌++◌, length}
use Rattle.std.specs.List.{All, Any}
use Rattle.shim_local.specs.Process.{Ops}
use Rattle.shim_semantics.specs.Trees.{steps}
use Rattle.shim_semantics.specs.Systems.{run}
use Rattle.shim_laws_replay.specs.Journals.{Entry, entry_after}
use Rattle.shim_net.specs.Nets.{OpenGrant, NetView, reserved_in}
use Rattle.shim_net.specs.Granting.{NoneAtHome}
use Rattle.shim_net.specs.Settling.{RestsButForQuiet}

-- root and budget are the same, and what was done is in the journal, after what was there before
pub record GoesOn {S : Type 0} (o : Ops S) (before after : NetView S) : Type 0 where
  pub root : after.root ≡ before.root
  pub budget : after.budget ≡ before.budget
  pub done : List Entry
  pub journal : after.journal ≡ before.journal ++ done
  pub leads : run (entry_after o) done before.tree ≡ Some after.tree
  -- at least as many steps were done as open grants have become fewer
  pub at_least : steps before.tree + length before.grants ≤ steps after.tree + length after.grants

-- each of these grants is one of those
abbrev pub AreAmong : {S : Type 0} → List (OpenGrant S) → List (OpenGrant S) → Type 0
AreAmong these those = All (λ g. Any (λ h. h ≡ g) those) these

-- some of the budget is left, and some process can be given out
pub record CanGive {S : Type 0} (o : Ops S) (n : NetView S) : Type 0 where
  pub left : steps n.tree + reserved_in n.grants < n.budget
  pub some : NoneAtHome o n.tree n.grants → ⊥

-- each enabled event is a quiet step, or all that is left of the budget is reserved
abbrev pub HasSettled : {S : Type 0} → Ops S → NetView S → Type 0
HasSettled o n = RestsButForQuiet o n.tree ⊎ (steps n.tree + reserved_in n.grants ≡ n.budget)
