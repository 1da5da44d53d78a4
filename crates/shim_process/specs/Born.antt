-- Processes in the places of the children of a process's last fork.
use Rattle.std.specs.Prelude.{◌≡◌, ℕ, ◌+◌, List, [], ◌∷◌, ◌++◌, length}
use Rattle.shim_local.specs.Process.{AtFork}
use Rattle.shim_units.specs.declared.unit.Arg.{Arg}
use Rattle.shim_units.specs.declared.unit.Arg.TheVariants.{Ref, Pass, Fresh}
use Rattle.shim_units.specs.declared.unit.UBranch.{UBranch}
use Rattle.shim_process.specs.Locations.{Locations, channel_at}
use Rattle.shim_process.specs.LocalState.{LocalState, number_of, handlers}
use Rattle.shim_process.specs.FittingFrames.{parameters_of}
use Rattle.shim_process.specs.Forks.{item_branches}
use Rattle.shim_process.specs.Stops.{stop}

-- Where an argument gives a variable, by reference or as a copy, the child's location and the parent's are on the same channel, or neither is there. The child's first locations are those of its parameters, in order; the first argument's has this number.
abbrev pub OnChannels : List ℕ → ℕ → List Arg → Locations → Locations → Type 0
OnChannels slots n [] child locations = Unit {0}
OnChannels slots n (Ref x ∷ rest) child locations = (channel_at child n ≡ channel_at locations (number_of slots x)) × OnChannels slots (n + 1) rest child locations
OnChannels slots n (Pass x ∷ rest) child locations = (channel_at child n ≡ channel_at locations (number_of slots x)) × OnChannels slots (n + 1) rest child locations
OnChannels slots n (Fresh e ∷ rest) child locations = OnChannels slots (n + 1) rest child locations

-- The process k has the path and the base of the child in branch i of fork f of the process l. It has a parameter for each argument of the branch. The location of a parameter whose argument is a variable is on that variable's channel.
pub record InBranch (l : LocalState) (f i : ℕ) (b : UBranch) (k : LocalState) : Type 0 where
  pub path : k.path ≡ l.path ++ (f, i) ∷ []
  pub base : k.base ≡ handlers l
  pub many : parameters_of k ≡ length b.call.args
  pub channels : OnChannels l.frame.slots 0 b.call.args k.locations l.locations

-- the processes are in the branches, one in each and in order; the first branch is branch i
abbrev pub InBranches : LocalState → ℕ → ℕ → List UBranch → List LocalState → Type 0
InBranches l f i [] [] = Unit {0}
InBranches l f i (b ∷ branches) (k ∷ ks) = InBranch l f i b k × InBranches l f (i + 1) branches ks
InBranches _ _ _ _ _ = ⊥

-- The process stands at its last fork, and the other processes are in the fork's branches, in order, whatever they have done since the fork.
pub record Born (l : LocalState) (ks : List LocalState) : Type 0 where
  pub fork : ℕ
  pub last : l.forks ≡ fork + 1
  pub stops_at_fork : stop l ≡ AtFork
  pub places : InBranches l fork 0 (item_branches l.frame.todo) ks
