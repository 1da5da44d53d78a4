-- What is left of a path on the way to a process, and that each process of a tree has its count.
use Rattle.std.specs.Prelude.{ℕ, Option, Some, None, List, [], ◌∷◌, drop}
use Rattle.std.specs.FinMap as finite
use Rattle.shim_base.specs.Paths.{Path, path_order}
use Rattle.shim_local.specs.Process.{Ops}
use Rattle.shim_local.specs.Laws.{AllOf}
use Rattle.shim_semantics.specs.Nodes.{Node, everyone}
use Rattle.shim_semantics.specs.Places.{branches}
use Rattle.shim_run_log.specs.Reserved.{HasCount}

-- What is left of a path, by its next step: a branch and the place of the pair after it, or nothing.
abbrev pub led_on : Path → Option (ℕ × ℕ) → List ℕ
led_on p None = []
led_on p (Some s) = s.0 ∷ branches (drop s.1 p)

-- each process of the tree has its count
abbrev pub AllHaveCounts : {S : Type 0} → Ops S → finite.FinMap path_order ℕ → Node S → Type 0
AllHaveCounts o m n = AllOf (λ s. HasCount m (o.path s)) (everyone n)
