-- That a unit in which nothing is left to do is left at once.
use Rattle.std.specs.Prelude.{◌≡◌, List, [], ◌∷◌}
use Rattle.shim_semantics.specs.Nodes.{Node, Nodes, Live, Forked, Ended, Dead, no_node, node_and}
use Rattle.shim_process.specs.LocalState.{LocalState, Frame}
use Rattle.shim_process.specs.Todo.{Item, Do, Leave}

-- no end of a `try` comes next
abbrev pub StartsRight : List Item → Type 0
StartsRight [] = Unit {0}
StartsRight (Leave ∷ k) = ⊥
StartsRight (Do n s ∷ k) = Unit {0}

-- in none of the frames the end of a `try` is next
abbrev pub AllStartRight : List Frame → Type 0
AllStartRight [] = Unit {0}
AllStartRight (f ∷ fs) = StartsRight f.todo × AllStartRight fs

-- In no frame the end of a `try` is next. Where nothing is left to do in the innermost frame, no frame waits for it.
pub record IsSettled (l : LocalState) : Type 0 where
  pub starts : AllStartRight (l.frame ∷ l.callers)
  pub left : l.frame.todo ≡ [] → l.callers ≡ []

abbrev mutual
  pub AllSettled : Node LocalState → Type 0
  AllSettled (Live l) = IsSettled l
  AllSettled (Ended l) = IsSettled l
  AllSettled (Dead l x) = IsSettled l
  AllSettled (Forked l ks) = IsSettled l × EachSettled ks

  pub EachSettled : Nodes LocalState → Type 0
  EachSettled no_node = Unit {0}
  EachSettled (node_and k ks) = AllSettled k × EachSettled ks
