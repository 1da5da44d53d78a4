-- A child, with its status in the list that lies beside the states.
use Rattle.std.specs.Prelude.{ℕ, zero, suc, List, [], ◌∷◌}
use Rattle.shim_semantics.specs.Nodes.{Node, Live}

-- the child of this state in its place; one without a status lives
abbrev pub nth_child : {S : Type 0} → S → List (S → Node S) → ℕ → Node S
nth_child l [] i = Live l
nth_child l (f ∷ fs) zero = f l
nth_child l (f ∷ fs) (suc i) = nth_child l fs i
