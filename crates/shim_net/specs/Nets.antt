-- A net as contracts see it, and what its type keeps.
use Rattle.std.specs.Prelude.{◌≡◌, ◌≢◌, ◌≤◌, ℕ, List, [], map}
use Rattle.std.specs.List.{Any, AllPairs}
use Rattle.shim_local.specs.Process.{Ops}
use Rattle.shim_semantics.specs.Trees.{Tree, start}
use Rattle.shim_laws_replay.specs.Journals.{Entry}
use Rattle.shim_laws_replay.specs.Nets.{Grant, NetKeeps, reserved}

-- A grant that is open: the number of the process, the two of the piece, the most steps, and the state in which the process was given out.
pub record OpenGrant (S : Type 0) : Type 0 where
  pub pid : ℕ
  pub slot : ℕ
  pub round : ℕ
  pub most : ℕ
  pub start : S

-- A net as contracts name it. The state `root` is that of the root before any event.
pub record NetView (S : Type 0) : Type 0 where
  pub root : S
  pub budget : ℕ
  pub tree : Tree S
  pub journal : List Entry
  pub grants : List (OpenGrant S)

-- what the laws of journals see of a grant
abbrev pub granted : {S : Type 0} → OpenGrant S → Grant S
granted g = record { start = g.start; most = g.most }

-- how many steps the open grants may take together
abbrev pub reserved_in : {S : Type 0} → List (OpenGrant S) → ℕ
reserved_in grants = reserved (map granted grants)

-- the grant has this slot and round
abbrev pub HasNumbers : {S : Type 0} → ℕ → ℕ → OpenGrant S → Type 0
HasNumbers slot round g = (g.slot ≡ slot) × (g.round ≡ round)

-- a grant of this slot and round is open
abbrev pub IsOpen : {S : Type 0} → ℕ → ℕ → List (OpenGrant S) → Type 0
IsOpen slot round grants = Any (HasNumbers slot round) grants

-- two grants have not both the same slot and the same round
abbrev pub HaveOtherNumbers : {S : Type 0} → OpenGrant S → OpenGrant S → Type 0
HaveOtherNumbers g h = g.slot ≡ h.slot → g.round ≢ h.round

-- two grants are of processes with two numbers
abbrev pub HaveOtherPids : {S : Type 0} → OpenGrant S → OpenGrant S → Type 0
HaveOtherPids g h = g.pid ≢ h.pid

-- what the type of a net keeps
pub record IsNet {S : Type 0} (o : Ops S) (n : NetView S) : Type 0 where
  pub has_budget : 1 ≤ n.budget
  pub most : n.budget ≤ 4000000
  -- the root has the path of a root
  pub at_root : o.path n.root ≡ []
  -- the invariant on which the laws of journals rest
  pub keeps : NetKeeps o n.root n.budget n.journal n.tree (map granted n.grants)
  pub numbers : AllPairs HaveOtherNumbers n.grants
  pub pids : AllPairs HaveOtherPids n.grants

-- a net in which nothing has happened
abbrev pub started : {S : Type 0} → S → ℕ → NetView S
started root budget = record { root = root; budget = budget; tree = start root; journal = []; grants = [] }
