-- The state of one process put in place of another in a tree, and steps of its own counted one after another.
use Rattle.std.specs.Prelude.{ℕ, zero, suc, List}
use Rattle.std.specs.FinMap as finite
use Rattle.shim_base.specs.Paths.{Path, path_order}
use Rattle.shim_semantics.specs.Nodes.{Node, Nodes, Live, Forked, Ended, Dead, no_node, node_and}
use Rattle.shim_semantics.specs.Descents.{Ascent, apply_at, apply_among}
use Rattle.shim_semantics.specs.Trees.{with_step_counted}

-- the node with this state in place of its own; what came of it stays
abbrev pub with_state : {S : Type 0} → S → Node S → Node S
with_state m (Live l) = Live m
with_state m (Forked l ks) = Forked m ks
with_state m (Ended l) = Ended m
with_state m (Dead l x) = Dead m x

-- a node that is replaced shows at the nodes above it
abbrev pub replaced_above : {S : Type 0} → Ascent S (Node S) (Nodes S)
replaced_above = record { above = Forked; first = λ ks k. node_and k ks; later = node_and; nowhere = λ n. n; no_child = no_node }

-- the node to which these branches lead, if there is one, has this state in place of its own
abbrev pub with_state_at : {S : Type 0} → S → List ℕ → Node S → Node S
with_state_at m = apply_at replaced_above (with_state m)

-- the same from some children, by the branch to one of them and those after it
abbrev pub with_state_in : {S : Type 0} → S → ℕ → List ℕ → Nodes S → Nodes S
with_state_in m = apply_among replaced_above (with_state m)

-- the process of the path did so many steps more, counted one after another
abbrev pub steps_taken : finite.FinMap path_order ℕ → Path → ℕ → finite.FinMap path_order ℕ
steps_taken m p zero = m
steps_taken m p (suc n) = steps_taken (with_step_counted m p) p n
