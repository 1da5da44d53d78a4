-- That each exception that a process throws has a place.
use Rattle.std.specs.Prelude.{◌≡◌, ◌≤◌, ◌⊎◌, ℕ, ◌-◌, List, ◌++◌, length, Some}
use Rattle.shim_local.specs.Process.{AtThrow}
use Rattle.shim_semantics.specs.Nodes.{Node, Live, state}
use Rattle.shim_semantics.specs.Places.{at}
use Rattle.shim_semantics.specs.Trees.{Tree}
use Rattle.shim_units.specs.declared.form.Form.{Form}
use Rattle.shim_process.specs.LocalState.{LocalState, ExceptionPlace}
use Rattle.shim_process.specs.Ops.{process_ops}
use Rattle.shim_process.specs.Unwinding.{exception_place_in}

-- the exception place of this label is one of the process's own, and in force
pub record HasPlace (l : LocalState) (label : ℕ) : Type 0 where
  pub own : l.base ≤ label
  pub place : ExceptionPlace
  pub there : exception_place_in l.frame (label - l.base) l.callers ≡ Some place

-- The exception place of this label is one of a process on the way from the root to the process to which the branches q lead, or one of that process.
pub record HasPlaceOnWay (t : Tree LocalState) (q : List ℕ) (label : ℕ) : Type 0 where
  pub front : List ℕ
  pub rest : List ℕ
  pub whole : front ++ rest ≡ q
  pub process : Node LocalState
  pub at_front : at front t.root ≡ Some process
  pub place : HasPlace (state process) label

-- the label is that of one of the exceptions that `main` throws, of which the first has label 1
abbrev pub IsThrownByMain : Form → ℕ → Type 0
IsThrownByMain program label = (1 ≤ label) × (label ≤ length program.main_throws)

-- each exception that a live process throws has a place, its own or one of a process on the way to it, or is one that `main` throws
abbrev pub ThrownHavePlaces : Form → Tree LocalState → Type 0
ThrownHavePlaces program t = (q : List ℕ) (l : LocalState) (label : ℕ) → at q t.root ≡ Some (Live l) → process_ops.stop l ≡ AtThrow label → HasPlaceOnWay t q label ⊎ IsThrownByMain program label
