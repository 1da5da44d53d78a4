-- Where the locations of one process have the channels' own variables: what all states have that a process comes to in a program whose units use slots of their own.
use Rattle.std.specs.Prelude.{◌≡◌, ◌<◌, ◌≤◌, ◌⊎◌, ℕ, List, [], ◌∷◌, Some}
use Rattle.shim_base.specs.Paths.{Path, Channel}
use Rattle.shim_units.specs.declared.form.Form.{Form}
use Rattle.shim_process.specs.Locations.{Location, Locations, Lent, Copy, at_number}
use Rattle.shim_process.specs.LocalState.{LocalState, Frame}
use Rattle.shim_process.specs.FittingFrames.{parameters_of, Fitting}
use Rattle.shim_process.specs.Sound.{IsOwned}

-- one of the units that the process is in has this floor
abbrev pub IsFloor : ℕ → Frame → List Frame → Type 0
IsFloor bound f [] = bound ≡ f.floor
IsFloor bound f (caller ∷ callers) = (bound ≡ f.floor) ⊎ IsFloor bound caller callers

-- the location at this number is the channel's own variable, here or with a child
pub record OwnedOn (locations : Locations) (n : ℕ) (c : Channel) : Type 0 where
  pub place : Location
  pub at : at_number locations n ≡ Some place
  pub owned : IsOwned place.ownership
  pub on : place.channel.channel ≡ c

-- Some location before the floor of one of the frames is the channel's own variable, here or with a child. The number m isn't below that floor.
pub record Anchor (f : Frame) (callers : List Frame) (locations : Locations) (m : ℕ) (c : Channel) : Type 0 where
  pub number : ℕ
  pub owned : OwnedOn locations number c
  pub bound : ℕ
  pub floor : IsFloor bound f callers
  pub before : number < bound
  pub behind : bound ≤ m

-- The frames fit (`Fitting`). Each copy on a channel that the process declared is anchored (`Anchor`).
pub record Anchored (path : Path) (program : Form) (f : Frame) (callers : List Frame) (locations : Locations) : Type 0 where
  pub fitting : Fitting path program f callers locations
  pub anchors : (m : ℕ) (x : Location) → at_number locations m ≡ Some x → x.ownership ≡ Copy → x.channel.channel.home ≡ path → Anchor f callers locations m x.channel.channel

-- the same of the state of a process
abbrev pub IsAnchored : LocalState → Type 0
IsAnchored l = Anchored l.path l.program l.frame l.callers l.locations

-- none of the locations is lent
abbrev pub NoneLent : Locations → Type 0
NoneLent locations = (n : ℕ) (x : Location) → at_number locations n ≡ Some x → x.ownership ≡ Lent → ⊥

-- a process that waits for no children is anchored, and none of its locations is lent
abbrev pub IsAnchoredWhole : LocalState → Type 0
IsAnchoredWhole l = IsAnchored l × NoneLent l.locations

-- What a fork may rely on: the second state has the path of the first, was given the same channels, and has as many parameters. A parameter's location that is a channel's own variable in the first state is that channel's own variable in the second. In either state it may be with a child.
pub record Stays (l m : LocalState) : Type 0 where
  pub path : m.path ≡ l.path
  pub given : m.given ≡ l.given
  pub many : parameters_of m ≡ parameters_of l
  pub owned : (n : ℕ) (c : Channel) → n < parameters_of l → OwnedOn l.locations n c → OwnedOn m.locations n c
