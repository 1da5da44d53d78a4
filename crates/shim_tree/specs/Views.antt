-- What is seen of a process that is looked up by its path, without those below it.
use Rattle.std.specs.Prelude.{ℕ, ◌-◌, min, Option, Some, None, List, [], ◌∷◌, length, slice_get}
use Rattle.shim_base.specs.Paths.{Path}
use Rattle.shim_local.specs.Process.{Ops}
use Rattle.shim_semantics.specs.Nodes.{Node, Live, Forked, Ended, Dead, Death, states}
use Rattle.shim_tree.specs.NodeRefs.{how_many_of}
use Rattle.shim_tree.specs.declared.view.ProcessView.{ProcessView}
use Rattle.shim_tree.specs.declared.view.ProcessView.TheVariants as code

-- a node without the nodes below it
pub data NodeView (S : Type 0) : Type 0 where
  ViewLive : S → NodeView S
  -- with the number of its fork, and how many children it has
  ViewForked : S → ℕ → ℕ → NodeView S
  ViewEnded : S → NodeView S
  ViewDead : S → Death → NodeView S

-- the fork's number in a pair of a path; 0 where there is no pair
abbrev pub fork_in : Option (ℕ × ℕ) → ℕ
fork_in None = 0
fork_in (Some x) = x.0

-- the number of the fork of which the process of the path is a child; 0 for the empty path
abbrev pub last_fork : Path → ℕ
last_fork p = fork_in (slice_get p (length p - 1))

-- the number of the fork of which these are the children; 0 where there are none
abbrev pub fork_of : {S : Type 0} → Ops S → List S → ℕ
fork_of o [] = 0
fork_of o (l ∷ ls) = last_fork (o.path l)

-- a count, or 4,294,967,295 where it is greater
abbrev pub as_word : ℕ → ℕ
as_word n = min n 4294967295

-- the view of a node; a forked one has its fork's number and its number of children in 32 bits
abbrev pub node_view : {S : Type 0} → Ops S → Node S → NodeView S
node_view o (Live l) = ViewLive l
node_view o (Forked l ks) = ViewForked l (fork_of o (states ks)) (as_word (how_many_of ks))
node_view o (Ended l) = ViewEnded l
node_view o (Dead l d) = ViewDead l d

-- the view of a node that the code's view stands for
abbrev pub viewed : {S : Type 0} → ProcessView S → NodeView S
viewed (code.Live l) = ViewLive l.now
viewed (code.Forked l f n) = ViewForked l.now f n
viewed (code.Ended l) = ViewEnded l.now
viewed (code.Dead l d) = ViewDead l.now d
