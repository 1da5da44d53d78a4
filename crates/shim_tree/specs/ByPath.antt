-- The process of a path, and what it can do.
use Rattle.std.specs.Prelude.{ℕ, Bool, false, Option, Some, None, List, [], ◌∷◌, ◌&&◌, cond}
use Rattle.shim_base.specs.Paths.{Path, Channel}
use Rattle.shim_local.specs.Process.{Ops}
use Rattle.shim_semantics.specs.Nodes.{Node, Live, Forked, Ended, Dead, state, all_done, ready}
use Rattle.shim_semantics.specs.Poison.{can_poison, to_fork, last_branch}
use Rattle.shim_semantics.specs.Places.{at, route, led_to, has_path}
use Rattle.shim_semantics.specs.Trees.{Event, Own, Meet, Poison, Close, End, OwnAction, Steps, Ends, own_action_of, same_own_action}

-- what is found, if it is the node of the process of the path
abbrev pub if_its : {S : Type 0} → Ops S → Path → Option (Node S) → Option (Node S)
if_its o p x = cond (has_path o p x) x None

-- the node of the process of the path, if there is one
abbrev pub its_node : {S : Type 0} → Ops S → Node S → Path → Option (Node S)
its_node o root p = if_its o p (led_to o root p)

-- there is a node, and it passes
abbrev pub passes_there : {S : Type 0} → (Node S → Bool) → Option (Node S) → Bool
passes_there f None = false
passes_there f (Some n) = f n

-- this is what the process of the node can do by itself
abbrev pub can_do : {S : Type 0} → Ops S → OwnAction → Node S → Bool
can_do o k n = same_own_action k (own_action_of o n)

-- it has forked, and its children have ended or died
abbrev pub can_close : {S : Type 0} → Node S → Bool
can_close (Live l) = false
can_close (Forked l ks) = all_done ks
can_close (Ended l) = false
can_close (Dead l d) = false

-- it has forked, and its child in this place is ready on the channel and doomed on it
abbrev pub can_poison_at : {S : Type 0} → Ops S → Channel → ℕ → Node S → Bool
can_poison_at o c i (Live l) = false
can_poison_at o c i (Forked l ks) = can_poison o l c i ks
can_poison_at o c i (Ended l) = false
can_poison_at o c i (Dead l d) = false

-- whether the child to which the branch i and then the branches q lead is ready on the channel and doomed on it
abbrev pub can_poison_below : {S : Type 0} → Ops S → Channel → ℕ → List ℕ → Node S → Bool
can_poison_below o c i q n = passes_there (can_poison_at o c (last_branch i q)) (at (to_fork i q) n)

-- whether the child to which the branches lead, if there are branches, is ready on the channel and doomed on it; the root is no child
abbrev pub can_poison_by : {S : Type 0} → Ops S → Channel → Node S → Option (List ℕ) → Bool
can_poison_by o c root None = false
can_poison_by o c root (Some []) = false
can_poison_by o c root (Some (i ∷ q)) = can_poison_below o c i q root

-- the event can happen in the tree of this root
abbrev pub can_happen : {S : Type 0} → Ops S → Event → Node S → Bool
can_happen o (Own p) root = passes_there (can_do o Steps) (its_node o root p)
can_happen o (Meet c) root = passes_there (ready o c) (its_node o root c.home)
can_happen o (Poison p c) root = has_path o p (led_to o root p) && can_poison_by o c root (route (o.path (state root)) p)
can_happen o (Close p) root = passes_there can_close (its_node o root p)
can_happen o (End p) root = passes_there (can_do o Ends) (its_node o root p)
