-- When trees of two kinds of process are tied.
use Rattle.std.specs.Prelude.{◌≡◌}
use Rattle.shim_semantics.specs.Nodes.{Node, Nodes, Live, Forked, Ended, Dead, no_node, node_and}
use Rattle.shim_semantics.specs.Trees.{Tree}

-- the two nodes have one shape, the same came of the processes in the same places, and these are tied
abbrev mutual
  pub NodesTied : {A B : Type 0} → (A → B → Type 0) → Node A → Node B → Type 0
  NodesTied R (Live l) (Live m) = R l m
  NodesTied R (Forked l ks) (Forked m js) = R l m × ChildrenTied R ks js
  NodesTied R (Ended l) (Ended m) = R l m
  NodesTied R (Dead l d) (Dead m e) = R l m × (d ≡ e)
  NodesTied R _ _ = ⊥

  pub ChildrenTied : {A B : Type 0} → (A → B → Type 0) → Nodes A → Nodes B → Type 0
  ChildrenTied R no_node no_node = Unit {0}
  ChildrenTied R (node_and k ks) (node_and j js) = NodesTied R k j × ChildrenTied R ks js
  ChildrenTied R _ _ = ⊥

-- the processes are tied, and the same was put, met, logged and counted
pub record TreesTied {A B : Type 0} (R : A → B → Type 0) (t : Tree A) (u : Tree B) : Type 0 where
  pub root : NodesTied R t.root u.root
  pub output : t.output ≡ u.output
  pub histories : t.histories ≡ u.histories
  pub logs : t.logs ≡ u.logs
  pub counts : t.counts ≡ u.counts
  pub events : t.events ≡ u.events
