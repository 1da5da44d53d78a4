-- The poison of a child as the code comes to it: by a branch, and then the pairs of a path.
use Rattle.std.specs.Prelude.{ℕ, Option}
use Rattle.shim_base.specs.Paths.{Path, Channel}
use Rattle.shim_local.specs.Process.{Ops}
use Rattle.shim_semantics.specs.Nodes.{Node, Nodes}
use Rattle.shim_semantics.specs.Poison.{poison, poison_child, to_fork, last_branch}
use Rattle.shim_semantics.specs.Places.{branches}

-- the child to which this branch and then those of the pairs lead is poisoned
abbrev pub poison_by : {S : Type 0} → Ops S → Channel → ℕ → Path → Node S → Option (Node S)
poison_by o c i pairs n = poison o c (last_branch i (branches pairs)) (to_fork i (branches pairs)) n

-- of the children ks: the child to which the branch b, then the branch i, and then those of the pairs lead is poisoned
abbrev pub poison_among : {S : Type 0} → Ops S → Channel → ℕ → ℕ → Path → Nodes S → Option (Nodes S)
poison_among o c b i pairs ks = poison_child o c (last_branch i (branches pairs)) b (to_fork i (branches pairs)) ks
