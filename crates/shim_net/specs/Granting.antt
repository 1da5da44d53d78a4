-- What is given out.
use Rattle.std.specs.Prelude.{◌≡◌, ◌≢◌, ◌≤◌, ◌⊎◌, ◌↔◌, ℕ, ◌+◌, ◌-◌, min, List, [], ◌∷◌, ◌++◌}
use Rattle.std.specs.List.{All, Any}
use Rattle.shim_local.specs.Process.{Ops}
use Rattle.shim_semantics.specs.Trees.{Tree, steps}
use Rattle.shim_laws_replay.specs.Grants.{IsGrantable}
use Rattle.shim_net.specs.Nets.{OpenGrant, NetView, reserved_in}

-- each process that is before a quiet step has an open grant
abbrev pub NoneAtHome : {S : Type 0} → Ops S → Tree S → List (OpenGrant S) → Type 0
NoneAtHome {S} o t grants = (l : S) → IsGrantable o t l → Any (λ g. o.path g.start ≡ o.path l) grants

-- a process in this state has a quiet step to do, and no grant of it is open
pub record IsAtHome {S : Type 0} (o : Ops S) (t : Tree S) (grants : List (OpenGrant S)) (l : S) : Type 0 where
  pub grantable : IsGrantable o t l
  pub free : All (λ g. o.path g.start ≢ o.path l) grants

-- nothing was given out, because nothing is left of the budget, or no process is at home
abbrev pub GivesNone : {S : Type 0} → Ops S → NetView S → NetView S → Type 0
GivesNone o before after = (after ≡ before) × ((steps before.tree + reserved_in before.grants ≡ before.budget) ⊎ NoneAtHome o before.tree before.grants)

-- a piece of work of a process at home was given out; of several at home nothing says which
pub record Grants {S : Type 0} (o : Ops S) (before after : NetView S) (most slot round : ℕ) (pid : ℕ) (start : S) (grant : ℕ) : Type 0 where
  pub process : IsAtHome o before.tree before.grants start
  -- the lesser of what was asked for and what is left of the budget
  pub lesser : grant ≡ min most (before.budget - (steps before.tree + reserved_in before.grants))
  pub some : 1 ≤ grant
  -- the root alone has the number 0
  pub root_is : (pid ≡ 0) ↔ (o.path start ≡ o.path before.root)
  pub after_is : after ≡ record { root = before.root; budget = before.budget; tree = before.tree; journal = before.journal; grants = before.grants ++ record { pid = pid; slot = slot; round = round; most = grant; start = start } ∷ [] }
