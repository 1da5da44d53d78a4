-- The tree that flat records represent, computed from them.
use Rattle.std.specs.Prelude.{◌≡◌, ℕ, zero, suc, ◌+◌, Option, Some, None, List, [], ◌∷◌, length, slice_get}
use Rattle.shim_base.specs.Paths.{Path}
use Rattle.shim_local.specs.Process.{Ops}
use Rattle.shim_semantics.specs.Nodes.{Node, Nodes, Live, Forked, Ended, Dead, no_node, node_and}
use Rattle.shim_laws_table.specs.NodeStatus.{ProcessStatus, lives, forks, ends, dies}
use Rattle.shim_laws_table.specs.Agrees.{RecordView, used, Represents}

-- a node in front of others, where there are all of them
abbrev pub node_in_front : {S : Type 0} → Option (Node S) → Option (Nodes S) → Option (Nodes S)
node_in_front (Some k) (Some ks) = Some (node_and k ks)
node_in_front _ _ = None

-- so many nodes, of the records from a number on
abbrev pub nodes_from : {S : Type 0} → (ℕ → Option (Node S)) → ℕ → ℕ → Option (Nodes S)
nodes_from node first zero = Some no_node
nodes_from node first (suc n) = node_in_front (node first) (nodes_from node (first + 1) n)

-- a fork of this process over these children, where there are all of them
abbrev pub fork_over : {S : Type 0} → S → Option (Nodes S) → Option (Node S)
fork_over l None = None
fork_over l (Some ks) = Some (Forked l ks)

-- the node of a record with this state and status, whose children are the nodes of the records from a number on
abbrev pub node_by : {S : Type 0} → (ℕ → Option (Node S)) → S → ℕ → ProcessStatus → Option (Node S)
node_by node s first lives = Some (Live s)
node_by node s first (forks n) = fork_over s (nodes_from node first n)
node_by node s first ends = Some (Ended s)
node_by node s first (dies d) = Some (Dead s d)

-- the node of a record with this state and view; none of a free one
abbrev pub node_in : {S : Type 0} → (ℕ → Option (Node S)) → Option S → Option RecordView → Option (Node S)
node_in node (Some s) (Some (used first k)) = node_by node s first k
node_in node _ _ = None

-- the node of the record with this number, if it and the records below it have at most so many levels; else none
abbrev pub node_of : {S : Type 0} → List S → List RecordView → ℕ → ℕ → Option (Node S)
node_of states views zero i = None
node_of states views (suc m) i = node_in (node_of states views m) (slice_get states i) (slice_get views i)

-- how long the paths of these are together: no process is further from the root
abbrev pub lengths_of : {S : Type 0} → Ops S → List S → ℕ
lengths_of o [] = 0
lengths_of o (s ∷ ss) = length (o.path s) + lengths_of o ss

-- the tree of the root's record
abbrev pub represented_tree : {S : Type 0} → Ops S → List S → List RecordView → Option (Node S)
represented_tree o states views = node_of states views (suc (lengths_of o states)) 0

-- where records represent a tree, it is the one that is computed
abbrev pub TreeIsComputed : {S : Type 0} → Ops S → Type 0
TreeIsComputed {S} o = (rp : Path) (states : List S) (views : List RecordView) (root : Node S) → Represents o rp states views root → represented_tree o states views ≡ Some root
