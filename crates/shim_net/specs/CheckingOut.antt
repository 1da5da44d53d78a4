-- The processes of open grants are those that are checked out of the tree.
use Rattle.std.specs.Prelude.{◌≡◌, ℕ, List}
use Rattle.std.specs.List.{All, Any}
use Rattle.shim_local.specs.Process.{Ops}
use Rattle.shim_run_state.specs.RunStates.{RunStateView, IsCheckedOut}
use Rattle.shim_net.specs.Nets.{OpenGrant}

-- the process of each open grant is checked out, and no other is
pub record AreCheckedOut {S : Type 0} (o : Ops S) (v : RunStateView S) (grants : List (OpenGrant S)) : Type 0 where
  pub checked_out : All (λ g. IsCheckedOut o v g.pid g.start) grants
  pub only : (i : ℕ) (l : S) → IsCheckedOut o v i l → Any (λ g. (g.pid ≡ i) × (g.start ≡ l)) grants
