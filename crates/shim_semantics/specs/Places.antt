-- Where the process of a path stands in a tree, and that the paths are as forks make them.
use Rattle.std.specs.Prelude.{◌≡◌, ◌≢◌, ◌<◌, ◌⊎◌, ℕ, ◌+◌, Bool, true, false, Option, Some, None, List, [], ◌∷◌, ◌++◌, ◌&&◌, cond}
use Rattle.shim_base.specs.Paths.{Path, Channel, same_pair, same_path}
use Rattle.shim_local.specs.Process.{Ops}
use Rattle.shim_semantics.specs.Nodes.{Node, Nodes, Live, Forked, Ended, Dead, Death, no_node, node_and, state, states, ready}
use Rattle.shim_semantics.specs.Descents.{Ascent, apply_at, apply_among}

-- a node that is found is the same from wherever the branches begin
abbrev pub found_above : {S : Type 0} → Ascent S (Option (Node S)) (Option (Node S))
found_above = record { above = λ l n. n; first = λ ks n. n; later = λ k n. n; nowhere = λ n. None; no_child = None }

-- the node to which these branches lead
abbrev pub at : {S : Type 0} → List ℕ → Node S → Option (Node S)
at = apply_at found_above Some

-- the same from some children, by the branch to one of them and those after it
abbrev pub child_at : {S : Type 0} → ℕ → List ℕ → Nodes S → Option (Node S)
child_at = apply_among found_above Some

-- the branches of a path, without the numbers of the forks
abbrev pub branches : Path → List ℕ
branches [] = []
branches (x ∷ p) = x.1 ∷ branches p

-- what is left of the second path after the first, where that is a prefix of it
abbrev pub after_front : Path → Path → Option Path
after_front [] q = Some q
after_front (x ∷ p) [] = None
after_front (x ∷ p) (y ∷ q) = cond (same_pair x y) (after_front p q) None

-- the branches of a path, if there is one
abbrev pub option_branches : Option Path → Option (List ℕ)
option_branches None = None
option_branches (Some p) = Some (branches p)

-- the branches that lead from the process of the first path to that of the second; none are given where the first path is no prefix of the second
abbrev pub route : Path → Path → Option (List ℕ)
route root p = option_branches (after_front root p)

-- the node to which the branches lead from n, if there are branches
abbrev pub at_route : {S : Type 0} → Node S → Option (List ℕ) → Option (Node S)
at_route n None = None
at_route n (Some p) = at p n

-- the node to which the branches of the path lead from the root, if there is one; its own path may be another, with other numbers of forks
abbrev pub led_to : {S : Type 0} → Ops S → Node S → Path → Option (Node S)
led_to o root p = at_route root (route (o.path (state root)) p)

-- there is a node, its path is the channel's home, and it is ready on the channel
abbrev pub home_is_ready : {S : Type 0} → Ops S → Channel → Option (Node S) → Bool
home_is_ready o c None = false
home_is_ready o c (Some n) = same_path (o.path (state n)) c.home && ready o c n

-- the node of the process that declared the channel is ready on it
abbrev pub meets : {S : Type 0} → Ops S → Channel → Node S → Bool
meets o c root = home_is_ready o c (led_to o root c.home)

-- the node is that of the path
abbrev pub has_path : {S : Type 0} → Ops S → Path → Option (Node S) → Bool
has_path o p None = false
has_path o p (Some n) = same_path (o.path (state n)) p

-- in the tree of this root, n is the node of the process of the path
pub record StandsAt {S : Type 0} (o : Ops S) (root : Node S) (p : Path) (n : Node S) : Type 0 where
  pub there : led_to o root p ≡ Some n
  pub is_its : o.path (state n) ≡ p

-- k has the path and the base that the fork of number f of l gives its child in place i, and shares no other channels than that child may
pub record IsChild {S : Type 0} (o : Ops S) (l : S) (f i : ℕ) (k : S) : Type 0 where
  pub path : o.path k ≡ o.path l ++ (f, i) ∷ []
  -- as many exception places are in force around it as with those of its parent
  pub base : o.base k ≡ o.handlers l
  -- it shares only what its parent shares, and channels of its own
  pub shares : (c : Channel) → o.shares k c ≡ true → (o.shares l c ≡ true) ⊎ (c.home ≡ o.path k)

-- what holds of a process that forked, where something holds of its children for the number of the fork
pub record IsFork {S : Type 0} (o : Ops S) (l : S) (ks : Nodes S) (Children : ℕ → Type 0) : Type 0 where
  pub number : ℕ
  pub children : Children number
  -- there is a child
  pub some : ks ≢ no_node
  -- they are born of it
  pub born : o.born l (states ks)
  pub sound : o.sound l

-- a process that died of an exception for which it has no handler
pub record IsDeath {S : Type 0} (o : Ops S) (l : S) (d : Death) : Type 0 where
  pub below_base : d.label < o.base l
  pub sound : o.sound l

-- Each state is one that a process comes to; each forked process has the children of a fork, and each dead one a death of its own.
abbrev mutual
  pub SoundBelow : {S : Type 0} → Ops S → Node S → Type 0
  SoundBelow o (Live l) = o.sound l
  SoundBelow o (Ended l) = o.sound l
  SoundBelow o (Dead l d) = IsDeath o l d
  SoundBelow o (Forked l ks) = IsFork o l ks (λ f. SoundChildren o l f 0 ks)

  -- the children of l from the place i on
  pub SoundChildren : {S : Type 0} → Ops S → S → ℕ → ℕ → Nodes S → Type 0
  SoundChildren o l f i no_node = Unit {0}
  SoundChildren o l f i (node_and k ks) = IsChild o l f i (state k) × SoundBelow o k × SoundChildren o l f (i + 1) ks
