-- That each `put` has the output, and each `get` the input.
use Rattle.std.specs.Prelude.{◌≡◌, ℕ, true, Some}
use Rattle.shim_semantics.specs.Trees.{Tree}
use Rattle.shim_scopes.specs.declared.tree.UExpr.{UExpr}
use Rattle.shim_units.specs.declared.unit.UWhat.{UWhat-F}
use Rattle.shim_process.specs.LocalState.{LocalState}
use Rattle.shim_laws_stops.specs.Named.{IsLiveIn, IsAtStmt}

-- each live process that stands at a `put` has the output
abbrev pub PutsHaveOutput : Tree LocalState → Type 0
PutsHaveOutput t = (l : LocalState) (o : ℕ) (e : UExpr) → IsLiveIn t l → IsAtStmt l (UWhat-F.Put o e) → l.holds_output ≡ true

-- each live process that stands at a `get` has the input, with a place in it
abbrev pub GetsHaveInput : Tree LocalState → Type 0
GetsHaveInput t = (l : LocalState) (x i : ℕ) → IsLiveIn t l → IsAtStmt l (UWhat-F.Get x i) → (n : ℕ) × (l.input_at ≡ Some n)
