-- The arguments of a call, by the parameters of the function that is called.
use Rattle.std.specs.Prelude.{ℕ, List, [], ◌∷◌, Option, Some, None, Bool, true, false, ◌||◌, slice_get}
use Rattle.shim_syntax.specs.declared.tree.Sort.{Sort}
use Rattle.shim_syntax.specs.declared.tree.Sort.TheVariants.{Value, Input, Output}
use Rattle.shim_scopes.specs.declared.tree.UExpr.{UExpr, fold-UExpr, UExpr-F}
use Rattle.shim_scopes.specs.declared.tree.UParam.{UParam}
use Rattle.shim_scopes.specs.declared.tree.RFunction.{RFunction}
use Rattle.shim_units.specs.declared.found.Given.{Given}

abbrev pub is_stream : Sort → Bool
is_stream (Value ty) = false
is_stream Input = true
is_stream Output = true

-- whether the parameter takes its argument by reference; a parameter that is a stream always does
abbrev pub lends : UParam → Bool
lends p = p.by_ref || is_stream p.sort

-- the first parameter takes its argument by reference; without parameters none does
abbrev pub lends_first : List UParam → Bool
lends_first [] = false
lends_first (p ∷ ps) = lends p

-- the parameters after the first
abbrev pub behind_first : List UParam → List UParam
behind_first [] = []
behind_first (p ∷ ps) = ps

abbrev pub params_of : Option RFunction → List UParam
params_of None = []
params_of (Some f) = f.params

-- the parameters of function n of the list, and none where the list has no function n
abbrev pub params_at : List RFunction → ℕ → List UParam
params_at fs n = params_of (slice_get fs n)

-- the variable that an expression is, where it is one; its operands don't count
abbrev pub bare_step : UExpr-F (Option ℕ) → Option ℕ
bare_step (UExpr-F.Var x) = Some x
bare_step _ = None

-- the variable of which an expression is the name alone, if it is one
unfoldable pub bare : UExpr → Option ℕ
bare = fold-UExpr (Option ℕ) bare_step

-- of each argument, whether its parameter takes it by reference, and the variable that it is, where it is a bare one; an argument without a parameter isn't taken by reference
abbrev pub paired_arguments : List UParam → List UExpr → List Given
paired_arguments ps [] = []
paired_arguments ps (e ∷ es) = record { lent = lends_first ps; bare = bare e } ∷ paired_arguments (behind_first ps) es
