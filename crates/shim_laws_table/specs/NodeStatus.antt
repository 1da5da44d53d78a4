-- What a flat record says of a node: its state, and what came of it, but nothing of the nodes below.
use Rattle.std.specs.Prelude.{◌≢◌, ℕ, suc, Bool, true, false, Option, Some, None, List, ◌++◌, drop, length}
use Rattle.shim_base.specs.Paths.{Path}
use Rattle.shim_local.specs.Process.{Ops}
use Rattle.shim_semantics.specs.Nodes.{Node, Nodes, Live, Forked, Ended, Dead, Death, no_node, node_and, state}
use Rattle.shim_semantics.specs.Places.{branches}

-- a process lives, has forked into so many children, has ended, or has died this death
pub data ProcessStatus : Type 0 where
  lives : ProcessStatus
  forks : ℕ → ProcessStatus
  ends : ProcessStatus
  dies : Death → ProcessStatus

-- how many nodes the list has, without those below them
abbrev pub how_many_nodes : {S : Type 0} → Nodes S → ℕ
how_many_nodes no_node = 0
how_many_nodes (node_and k ks) = suc (how_many_nodes ks)

-- what came of the process of a node
abbrev pub process_status : {S : Type 0} → Node S → ProcessStatus
process_status (Live l) = lives
process_status (Forked l ks) = forks (how_many_nodes ks)
process_status (Ended l) = ends
process_status (Dead l d) = dies d

-- the state and the status of a node, where there is one
abbrev pub seen : {S : Type 0} → Option (Node S) → Option (S × ProcessStatus)
seen None = None
seen (Some n) = Some (state n, process_status n)

-- there is nothing below it
abbrev pub is_leaf : {S : Type 0} → Node S → Bool
is_leaf (Live l) = true
is_leaf (Forked l ks) = false
is_leaf (Ended l) = true
is_leaf (Dead l d) = true

-- the branches that lead from the root with this path to the process of a state
abbrev pub place : {S : Type 0} → Ops S → Path → S → List ℕ
place o rp s = branches (drop (length rp) (o.path s))

-- the first place is not the second, nor below it
abbrev pub IsAside : List ℕ → List ℕ → Type 0
IsAside p q = (r : List ℕ) → p ≢ q ++ r
