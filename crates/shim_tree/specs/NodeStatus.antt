-- What a process of the code means with its status beside it.
use Rattle.std.specs.Prelude.{List, [], ◌∷◌, map}
use Rattle.shim_semantics.specs.Nodes as model
use Rattle.shim_tree.specs.declared.node_status.NodeStatus.{NodeStatus}
use Rattle.shim_tree.specs.declared.node_status.NodeStatus.TheOpen.{NodeStatus-F, Live, Forked, Ended, Dead}
use Rattle.shim_tree.specs.declared.node_status.NodeStatus.TheFolds.{fold-NodeStatus}

-- each process with its status; one without lives
abbrev pub together : {S : Type 0} → List S → List (S → model.Node S) → model.Nodes S
together [] fs = model.no_node
together (l ∷ ls) [] = model.node_and (model.Live l) (together ls [])
together (l ∷ ls) (f ∷ fs) = model.node_and (f l) (together ls fs)

-- the node of a process l by its status, in which each child's status is a function from its state to its node
abbrev pub node_step : {S : Type 0} → NodeStatus-F S (S → model.Node S) → S → model.Node S
node_step Live l = model.Live l
node_step (Forked ls bs) l = model.Forked l (together ls.items bs.items)
node_step Ended l = model.Ended l
node_step (Dead x) l = model.Dead l x

-- the node of a process l by its status
abbrev pub node : {S : Type 0} → S → NodeStatus S → model.Node S
node {S} l b = fold-NodeStatus S (S → model.Node S) node_step b l

-- for each status the function from a process's state to its node
abbrev pub nodes : {S : Type 0} → List (NodeStatus S) → List (S → model.Node S)
nodes {S} bs = map (fold-NodeStatus S (S → model.Node S) node_step) bs
