-- Where the locations of a tree of processes have the channels' own variables.
use Rattle.std.specs.Prelude.{◌≡◌, ◌<◌, ◌⊎◌, ℕ, ◌+◌, List, [], ◌∷◌, Some, slice_get}
use Rattle.shim_base.specs.Paths.{Channel, NamedChannel}
use Rattle.shim_local.specs.Laws.{AllOf}
use Rattle.shim_semantics.specs.Nodes.{Node, Nodes, Live, Forked, Ended, Dead, no_node, node_and, states}
use Rattle.shim_units.specs.declared.unit.Arg.{Arg}
use Rattle.shim_units.specs.declared.unit.Arg.TheVariants.{Ref, Pass, Fresh}
use Rattle.shim_units.specs.declared.unit.UBranch.{UBranch}
use Rattle.shim_process.specs.Locations.{Location, Locations, Lent, at_number}
use Rattle.shim_process.specs.LocalState.{LocalState, number_of}
use Rattle.shim_process.specs.Forks.{item_branches}
use Rattle.shim_process.specs.FittingFrames.{parameters_of}
use Rattle.shim_laws_sources.specs.Anchored.{OwnedOn, IsAnchored, IsAnchoredWhole}

-- One of these arguments gives the location at number n of the parent by reference. The child's location for that argument is the channel's own variable, here or with a child. The first argument has the number j in the child.
abbrev pub GivesBack : List ℕ → ℕ → List Arg → LocalState → ℕ → Channel → Type 0
GivesBack slots j [] k n c = ⊥
GivesBack slots j (Ref x ∷ rest) k n c = ((number_of slots x ≡ n) × (j < parameters_of k) × OwnedOn k.locations j c) ⊎ GivesBack slots (j + 1) rest k n c
GivesBack slots j (Pass x ∷ rest) k n c = GivesBack slots (j + 1) rest k n c
GivesBack slots j (Fresh e ∷ rest) k n c = GivesBack slots (j + 1) rest k n c

-- one of the children, each made by the branch in its place, gives back the channel's own variable for that location
abbrev pub OneGivesBack : List ℕ → List UBranch → List LocalState → ℕ → Channel → Type 0
OneGivesBack slots [] ks n c = ⊥
OneGivesBack slots (b ∷ branches) [] n c = ⊥
OneGivesBack slots (b ∷ branches) (k ∷ ks) n c = GivesBack slots 0 b.call.args k n c ⊎ OneGivesBack slots branches ks n c

-- one of the locations is on the channel
pub record HasOn (locations : Locations) (c : Channel) : Type 0 where
  pub number : ℕ
  pub place : Location
  pub at : at_number locations number ≡ Some place
  pub on : place.channel.channel ≡ c

-- each channel that the child was given is its own, or a location of the parent is on it
abbrev pub IsGivenBy : LocalState → LocalState → Type 0
IsGivenBy l k = (at : ℕ) (d : NamedChannel) → slice_get k.given at ≡ Some d → (d.channel.home ≡ k.path) ⊎ HasOn l.locations d.channel

-- what a process has that waits for these children
pub record IsWaitingFor (l : LocalState) (ks : List LocalState) : Type 0 where
  pub anchored : IsAnchored l
  pub lent : (n : ℕ) (x : Location) → at_number l.locations n ≡ Some x → x.ownership ≡ Lent → OneGivesBack l.frame.slots (item_branches l.frame.todo) ks n x.channel.channel
  pub given : AllOf (IsGivenBy l) ks

-- Each process of the tree that waits for no children is anchored and has nothing lent. Each process that waits for children has what `IsWaitingFor` names.
abbrev mutual
  pub IsHome : Node LocalState → Type 0
  IsHome (Live l) = IsAnchoredWhole l
  IsHome (Ended l) = IsAnchoredWhole l
  IsHome (Dead l x) = IsAnchoredWhole l
  IsHome (Forked l ks) = IsWaitingFor l (states ks) × AreHome ks

  pub AreHome : Nodes LocalState → Type 0
  AreHome no_node = Unit {0}
  AreHome (node_and k ks) = IsHome k × AreHome ks
