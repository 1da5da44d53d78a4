-- One way to apply a function at the node to which branches lead.
use Rattle.std.specs.Prelude.{ℕ, zero, suc, List, [], ◌∷◌}
use Rattle.shim_semantics.specs.Nodes.{Node, Nodes, Live, Forked, Ended, Dead, no_node, node_and}

-- How what a function makes of a node, an A, shows at the nodes above it. Of a list of children that makes a B.
pub record Ascent (S A B : Type 0) : Type 0 where
  -- of a fork, from what is made of its children
  pub above : S → B → A
  -- of some children, from what is made of the first of them, or of those after it
  pub first : Nodes S → A → B
  pub later : Node S → B → B
  -- the branches lead on from a node that has no children, or to a child that isn't there
  pub nowhere : Node S → A
  pub no_child : B

-- What a function makes of the node to which these branches lead, as it shows at the node where they begin. A branch is the place of a child, from 0.
abbrev mutual
  pub apply_at : {S A B : Type 0} → Ascent S A B → (Node S → A) → List ℕ → Node S → A
  apply_at w f [] n = f n
  apply_at w f (b ∷ q) (Forked l ks) = w.above l (apply_among w f b q ks)
  apply_at w f (b ∷ q) (Live l) = w.nowhere (Live l)
  apply_at w f (b ∷ q) (Ended l) = w.nowhere (Ended l)
  apply_at w f (b ∷ q) (Dead l d) = w.nowhere (Dead l d)

  pub apply_among : {S A B : Type 0} → Ascent S A B → (Node S → A) → ℕ → List ℕ → Nodes S → B
  apply_among w f b q no_node = w.no_child
  apply_among w f zero q (node_and k ks) = w.first ks (apply_at w f q k)
  apply_among w f (suc b) q (node_and k ks) = w.later k (apply_among w f b q ks)
