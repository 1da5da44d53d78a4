-- The slot that a declaration names has the sort of that declaration, at any depth of a unit's text.
use Rattle.std.specs.Prelude.{◌≡◌, ℕ, List, [], ◌∷◌, ◌++◌, Some, slice_get}
use Rattle.shim_base.specs.declared.types.Ty.TheVariants.{Int32}
use Rattle.shim_syntax.specs.declared.tree.Sort.{Sort}
use Rattle.shim_syntax.specs.declared.tree.Sort.TheVariants.{Value}
use Rattle.shim_units.specs.declared.form.Form.{Form}
use Rattle.shim_units.specs.declared.unit.UStmt.{UStmt}
use Rattle.shim_units.specs.declared.unit.UWhat.{UWhat, UWhat-F, out-UWhat}
use Rattle.shim_process.specs.LocalState.{unit_at}

-- the statements in the blocks of a statement, and in the first part and the step of a `for`
abbrev pub inner : UWhat-F UWhat UStmt → List UStmt
inner (UWhat-F.If e first second) = first ++ second
inner (UWhat-F.While e body) = body
inner (UWhat-F.For first test step body) = first ++ (step ++ body)
inner (UWhat-F.Block body) = body
inner (UWhat-F.Try body x y handler) = body ++ handler
inner _ = []

-- the statement is one of these, or stands in a block of one of these, at any depth
pub data StandsIn (s : UStmt) : List UStmt → Type 0 where
  first : (ss : List UStmt) → StandsIn s (s ∷ ss)
  later : (t : UStmt) (ss : List UStmt) → StandsIn s ss → StandsIn s (t ∷ ss)
  inside : (t : UStmt) (ss : List UStmt) → StandsIn s (inner (out-UWhat t.what)) → StandsIn s (t ∷ ss)

-- a declaration's slot has its sort among these, and that of a handler's variable is an `int32`
abbrev pub HasItsSort : List Sort → UWhat-F UWhat UStmt → Type 0
HasItsSort slots (UWhat-F.Declare t x e) = slice_get slots x ≡ Some (Value t)
HasItsSort slots (UWhat-F.Try body x (Some y) handler) = slice_get slots y ≡ Some (Value Int32)
HasItsSort slots _ = Unit {0}

-- so it is with each statement of each unit
abbrev pub HasDeclaredSorts : Form → Type 0
HasDeclaredSorts program = (n : ℕ) (s : UStmt) → StandsIn s (unit_at program n).body → HasItsSort (unit_at program n).slots (out-UWhat s.what)
