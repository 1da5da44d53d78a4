-- Live processes by their number from the left, and how many stand before a node.
use Rattle.std.specs.Prelude.{◌≡◌, ℕ, ◌+◌, Bool, false, ◌&&◌, ◌||◌, Option, Some, None, List, [], ◌∷◌, length, slice_get, cond}
use Rattle.std.specs.Option.{option_map}
use Rattle.shim_semantics.specs.Nodes.{Node, Nodes, Live, Forked, Ended, Dead, no_node, node_and, state, or_else}
use Rattle.shim_base.specs.Paths.{Channel, NamedChannel, same_channel}
use Rattle.shim_local.specs.Process.{Ops, AtNext}
use Rattle.shim_semantics.specs.Laws.{IsSoundTree}
use Rattle.shim_base.specs.Lists.{IsAmong}
use Rattle.shim_semantics.specs.Trees.{Tree}
use Rattle.shim_semantics.specs.Walks.{head}
use Rattle.shim_waits.specs.Holding.{holds_up, first_of, lives}

-- the first node of which a test is true, and how many live processes are passed on the way, with those before
abbrev mutual
  pub first_with : {S : Type 0} → (Node S → Bool) → ℕ → Node S → Option (Node S × ℕ)
  first_with f n (Live l) = cond (f (Live l)) (Some (Live l, n)) None
  first_with f n (Forked l ks) = cond (f (Forked l ks)) (Some (Forked l ks, n)) (first_with_among f n ks)
  first_with f n (Ended l) = cond (f (Ended l)) (Some (Ended l, n)) None
  first_with f n (Dead l d) = cond (f (Dead l d)) (Some (Dead l d, n)) None

  pub first_with_among : {S : Type 0} → (Node S → Bool) → ℕ → Nodes S → Option (Node S × ℕ)
  first_with_among f n no_node = None
  first_with_among f n (node_and k ks) = or_else (first_with f n k) (first_with_among f (n + length (lives k)) ks)

-- `first_with` from 0 on finds the node that `first_of` finds. The number beside the node is that of the leftmost live process at and below it, if there is one.
pub record NumbersLead (S : Type 0) : Type 0 where
  pub finds : (f : Node S → Bool) (root : Node S) → option_map (λ x. x.0) (first_with f 0 root) ≡ first_of f root
  pub leads : (f : Node S → Bool) (root m : Node S) (i : ℕ) (b : S) → first_with f 0 root ≡ Some (m, i) → head (lives m) ≡ Some b → slice_get (lives root) i ≡ Some b

-- the channel is in the list, under whatever name
abbrev pub is_one_of : Channel → List NamedChannel → Bool
is_one_of c [] = false
is_one_of c (d ∷ ds) = same_channel d.channel c || is_one_of c ds

-- the process of the node was given the channel, and holds up whoever waits at it
abbrev pub holds_given : {S : Type 0} → Ops S → Channel → Node S → Bool
holds_given o c n = is_one_of c (o.given (state n)) && holds_up o c n

-- Where a live process of a sound tree waits at a channel, the first process that holds it up is the first that was given the channel and holds it up.
abbrev pub AskingGivenSuffices : {S : Type 0} → Ops S → Type 0
AskingGivenSuffices {S} o = (t : Tree S) (l : S) (d : NamedChannel) → IsSoundTree o t → IsAmong l (lives t.root) → o.stop l ≡ AtNext d → first_of (holds_given o d.channel) t.root ≡ first_of (holds_up o d.channel) t.root
