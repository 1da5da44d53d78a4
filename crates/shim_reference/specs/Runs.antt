-- What a run of first events comes to.
use Rattle.std.specs.Prelude.{◌≡◌, ◌≢◌, ◌≤◌, ◌⊎◌, ℕ, None}
use Rattle.shim_local.specs.Process.{Ops}
use Rattle.shim_semantics.specs.Trees.{Tree, steps, IsQuiescent}
use Rattle.shim_semantics.specs.Walks.{first_event}

-- no event is enabled in the tree, and the walk over it finds none
abbrev pub IsQuiescentTree : {S : Type 0} → Ops S → Tree S → Type 0
IsQuiescentTree o t = (first_event o t ≡ None) × IsQuiescent o t

-- the tree has b steps, and the walk over it finds an event that is enabled
abbrev pub IsStopped : {S : Type 0} → Ops S → ℕ → Tree S → Type 0
IsStopped o b t = (first_event o t ≢ None) × (IsQuiescent o t → ⊥) × (steps t ≡ b)

-- what a run of at most so many events comes to
abbrev pub IsEndOfRun : {S : Type 0} → Ops S → ℕ → Tree S → Type 0
IsEndOfRun o b t = IsQuiescentTree o t ⊎ IsStopped o b t

-- The tree is quiescent after at most b steps, or it has b steps. The end of a tree is read off it only where this holds.
abbrev pub HasRun : {S : Type 0} → Ops S → ℕ → Tree S → Type 0
HasRun o b t = ((steps t ≤ b) × IsQuiescent o t) ⊎ (steps t ≡ b)
