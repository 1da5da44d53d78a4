-- The invariant of the states of a process (`Sound`). Each state that a process comes to is sound; other states may be sound, too.
use Rattle.std.specs.Prelude.{◌≡◌, ◌<◌, ◌≤◌, ℕ, ◌+◌, true, false, List, [], ◌∷◌, ◌++◌, Option, Some, None, slice_get}
use Rattle.shim_base.specs.Paths.{Path, NamedChannel}
use Rattle.shim_process.specs.Locations.{Location, Ownership, Own, Lent, Copy, at_number}
use Rattle.shim_process.specs.LocalState.{LocalState, Frame, ExceptionPlace}
use Rattle.shim_process.specs.declared.handler_variable.HandlerVariable.{HandlerVariable}
use Rattle.shim_process.specs.declared.serial_run.SerialRun.{SerialRun}
use Rattle.shim_process.specs.SerialRuns.{is_in_runs}
use Rattle.shim_process.specs.Sharers.{shares}
use Rattle.shim_process.specs.FittingFrames.{IsFitting}

-- the first path leads to the second, or is it
abbrev pub IsPathPrefix : Path → Path → Type 0
IsPathPrefix p q = (rest : Path) × (p ++ rest ≡ q)

-- a location of this ownership is the channel's own variable, here or with a child
abbrev pub IsOwned : Ownership → Type 0
IsOwned Own = Unit {0}
IsOwned Lent = Unit {0}
IsOwned Copy = ⊥

-- each of these labels is below the bound; of a unit's labels the bound is the number of exception places in force around the unit
abbrev pub LabelsBelow : ℕ → List ℕ → Type 0
LabelsBelow bound [] = Unit {0}
LabelsBelow bound (x ∷ xs) = (x < bound) × LabelsBelow bound xs

-- in each frame each label that its unit was given is below the sum of `base` and the frame's `outer`
abbrev pub FramesBelow : ℕ → List Frame → Type 0
FramesBelow base [] = Unit {0}
FramesBelow base (f ∷ fs) = LabelsBelow (base + f.outer) f.labels × FramesBelow base fs

-- The variable of a handler, where there is one, is on a channel whose home is the path. The channel's serial number is among the untaken ones, and below the bound.
abbrev pub VariableIsBelow : Path → List SerialRun → ℕ → Option HandlerVariable → Type 0
VariableIsBelow path untaken bound None = Unit {0}
VariableIsBelow path untaken bound (Some y) = (y.channel.channel.home ≡ path) × (y.channel.channel.serial < bound) × (is_in_runs y.channel.channel.serial untaken ≡ true)

-- the serial number of the variable's channel, or the bound where there is no variable
abbrev pub bound_by : ℕ → Option HandlerVariable → ℕ
bound_by bound None = bound
bound_by bound (Some y) = y.channel.channel.serial

-- The variables of these places, the innermost first, are on channels of this process that no handler has taken, with serial numbers below this one that grow from the outermost inwards.
abbrev pub VariablesGrow : Path → List SerialRun → ℕ → List ExceptionPlace → Type 0
VariablesGrow path untaken bound [] = Unit {0}
VariablesGrow path untaken bound (p ∷ places) = VariableIsBelow path untaken bound p.variable × VariablesGrow path untaken (bound_by bound p.variable) places

-- the exception places of the first list, in reverse order, that is with the innermost first, and then the list `outer`
abbrev pub inward : List ExceptionPlace → List ExceptionPlace → List ExceptionPlace
inward [] outer = outer
inward (p ∷ places) outer = inward places (p ∷ outer)

-- the exception places of all frames, the innermost first
abbrev pub places_inward : List Frame → List ExceptionPlace
places_inward [] = []
places_inward (f ∷ fs) = inward f.places (places_inward fs)

-- `VariablesGrow` of the exception places of all these frames, with serial numbers below `made`
abbrev pub PlacesGrow : Path → List SerialRun → ℕ → List Frame → Type 0
PlacesGrow path untaken made frames = VariablesGrow path untaken made (places_inward frames)

-- in the state holds what each call of a process preserves
pub record Sound (l : LocalState) : Type 0 where
  pub base : 1 ≤ l.base
  pub labels : FramesBelow l.base (l.frame ∷ l.callers)
  -- what a variable is kept in is on a channel that the process shares
  pub channels : (n : ℕ) (x : Location) → at_number l.locations n ≡ Some x → shares l x.channel.channel ≡ true
  -- one location at most is a channel's own variable
  pub once : (n m : ℕ) (x y : Location) → at_number l.locations n ≡ Some x → at_number l.locations m ≡ Some y → IsOwned x.ownership → IsOwned y.ownership
      → x.channel.channel ≡ y.channel.channel → n ≡ m
  -- the channels that it was given are of processes on the way from the root, and those of its own are among the first that it made
  pub homes : (at : ℕ) (c : NamedChannel) → slice_get l.given at ≡ Some c → IsPathPrefix c.channel.home l.path
  pub serials : (at : ℕ) (c : NamedChannel) → slice_get l.given at ≡ Some c → c.channel.home ≡ l.path → c.channel.serial < l.made
  -- Each untaken serial number is below the number of channels that the process made. The process was given none of the untaken channels.
  pub made : (n : ℕ) → is_in_runs n l.untaken ≡ true → n < l.made
  pub taken : (at : ℕ) (c : NamedChannel) → slice_get l.given at ≡ Some c → c.channel.home ≡ l.path → is_in_runs c.channel.serial l.untaken ≡ false
  -- The variable of each handler in force is on an untaken channel. A handler inside another one has the greater serial number.
  pub places : PlacesGrow l.path l.untaken l.made (l.frame ∷ l.callers)
  -- a root was given no channels
  pub root : l.path ≡ [] → l.given ≡ []
  -- its program's units use slots of their own, and what a process declares has locations after those of its parameters
  pub fitting : IsFitting l
