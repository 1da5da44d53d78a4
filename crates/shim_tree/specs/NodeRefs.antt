-- A node that is lent.
use Rattle.std.specs.Prelude.{ℕ, zero, suc, ◌+◌, Option, Some, None, List, [], ◌∷◌, ◌++◌}
use Rattle.shim_semantics.specs.Nodes.{Node, Nodes, Live, Forked, Ended, Dead, no_node, node_and}
use Rattle.shim_semantics.specs.Places.{child_at}
use Rattle.shim_tree.specs.declared.node_status.NodeStatus.{NodeStatus}
use Rattle.shim_tree.specs.NodeStatus.{node}

-- a process with what came of it; a process without a status lives
abbrev pub lent_node : {S : Type 0} → S → Option (NodeStatus S) → Node S
lent_node l None = Live l
lent_node l (Some b) = node l b

-- the child in a place, of a process that has forked
abbrev pub child_in : {S : Type 0} → ℕ → Node S → Option (Node S)
child_in i (Live l) = None
child_in i (Forked l ks) = child_at i [] ks
child_in i (Ended l) = None
child_in i (Dead l d) = None

-- how many nodes the list has, without the nodes below them
abbrev pub how_many_of : {S : Type 0} → Nodes S → ℕ
how_many_of no_node = 0
how_many_of (node_and k ks) = suc (how_many_of ks)

-- how many children the process of the node has; only a forked one has any
abbrev pub child_count : {S : Type 0} → Node S → ℕ
child_count (Live l) = 0
child_count (Forked l ks) = how_many_of ks
child_count (Ended l) = 0
child_count (Dead l d) = 0

-- how many nodes there are at and below a node
abbrev mutual
  pub nodes_at : {S : Type 0} → Node S → ℕ
  nodes_at (Live l) = 1
  nodes_at (Forked l ks) = suc (nodes_in ks)
  nodes_at (Ended l) = 1
  nodes_at (Dead l d) = 1

  pub nodes_in : {S : Type 0} → Nodes S → ℕ
  nodes_in no_node = 0
  nodes_in (node_and k ks) = nodes_at k + nodes_in ks

-- the live processes at and below a node, from the left
abbrev mutual
  pub lives : {S : Type 0} → Node S → List S
  lives (Live l) = l ∷ []
  lives (Forked l ks) = all_lives ks
  lives (Ended l) = []
  lives (Dead l d) = []

  pub all_lives : {S : Type 0} → Nodes S → List S
  all_lives no_node = []
  all_lives (node_and k ks) = lives k ++ all_lives ks

-- the live processes at and below the children from a place on, from the left
abbrev pub lives_of_rest : {S : Type 0} → ℕ → Nodes S → List S
lives_of_rest zero ks = all_lives ks
lives_of_rest (suc i) no_node = []
lives_of_rest (suc i) (node_and k ks) = lives_of_rest i ks

-- the live processes at and below the children of a node from the place i on
abbrev pub lives_from : {S : Type 0} → ℕ → Node S → List S
lives_from i (Live l) = []
lives_from i (Forked l ks) = lives_of_rest i ks
lives_from i (Ended l) = []
lives_from i (Dead l d) = []
