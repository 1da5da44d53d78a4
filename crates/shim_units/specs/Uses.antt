-- The uses of variables in a text, in textual order.
use Rattle.std.specs.Prelude.{ℕ, List, [], ◌∷◌, ◌++◌, Option, Some, None, Bool, true, false}
use Rattle.shim_scopes.specs.declared.tree.UExpr.{UExpr, fold-UExpr, UExpr-F}
use Rattle.shim_scopes.specs.declared.tree.UParam.{UParam}
use Rattle.shim_scopes.specs.declared.tree.RCall.{RCall}
use Rattle.shim_scopes.specs.declared.tree.RFunction.{RFunction}
use Rattle.shim_scopes.specs.declared.tree.RWhat.{RWhat-F}
use Rattle.shim_scopes.specs.declared.tree.RBranchWhat.{RBranchWhat-F}
use Rattle.shim_units.specs.declared.found.How.{How}
use Rattle.shim_units.specs.declared.found.How.TheVariants.{Declared, Written, Named}
use Rattle.shim_units.specs.declared.found.Use.{Use}
use Rattle.shim_units.specs.Parts.{Part, all_uses}
use Rattle.shim_units.specs.Calls.{bare, lends_first, behind_first, params_at}

-- a use of the variable with slot x, in that way
abbrev pub used : How → ℕ → Use
used how x = record { slot = x; how = how }

-- the uses in an expression, given those in its operands: a variable is one use, in which it is named
abbrev pub names_step : UExpr-F (List Use) → List Use
names_step (UExpr-F.Number n) = []
names_step (UExpr-F.Var x) = used Named x ∷ []
names_step (UExpr-F.Unary op a) = a
names_step (UExpr-F.Binary op a b) = a ++ b

-- an expression names its variables
unfoldable pub names_in : UExpr → List Use
names_in = fold-UExpr (List Use) names_step

-- the uses in an expression, and none where there is no expression
abbrev pub names_in_option : Option UExpr → List Use
names_in_option None = []
names_in_option (Some e) = names_in e

-- An argument by reference that is a variable writes that variable. Any other argument by reference names the variables in its expression.
abbrev pub lent_uses : Option ℕ → List Use → List Use
lent_uses None named = named
lent_uses (Some x) named = used Written x ∷ []

-- the uses in an argument, whose parameter takes it by reference where the truth value is `true`
abbrev pub arg_uses : Bool → UExpr → List Use
arg_uses true e = lent_uses (bare e) (names_in e)
arg_uses false e = names_in e

-- The uses in the arguments of a call, each by its parameter. An argument without a parameter counts as given by value.
abbrev pub args_uses : List UParam → List UExpr → List Use
args_uses ps [] = []
args_uses ps (e ∷ es) = arg_uses (lends_first ps) e ++ args_uses (behind_first ps) es

-- the uses in the arguments of a call, by the parameters of the called function
abbrev pub call_uses : List RFunction → RCall → List Use
call_uses fs c = args_uses (params_at fs c.function) c.args

-- the variable of a handler is declared there
abbrev pub variable_uses : Option ℕ → List Use
variable_uses None = []
variable_uses (Some x) = used Declared x ∷ []

-- the uses of variables in what a branch does
abbrev pub branch_what_uses : {S T U V : Type 0} → List RFunction → RBranchWhat-F (ℕ → Part S) (ℕ → Part T) (Part U) (Part V) → List Use
branch_what_uses fs (RBranchWhat-F.RBranchWhat::Block body) = all_uses fs body
branch_what_uses fs (RBranchWhat-F.RBranchWhat::Call c) = call_uses fs c

-- the uses of variables in what a statement does, with those in its blocks and branches
abbrev pub what_uses : {S T U V : Type 0} → List RFunction → RWhat-F (ℕ → Part S) (ℕ → Part T) (Part U) (Part V) → List Use
what_uses fs (RWhat-F.Declare ty x e) = used Declared x ∷ names_in_option e
what_uses fs (RWhat-F.Assign x e) = used Written x ∷ names_in e
what_uses fs (RWhat-F.Next x) = used Named x ∷ []
what_uses fs (RWhat-F.NextAssign x e) = used Written x ∷ names_in e
what_uses fs (RWhat-F.AssignNext x y) = used Written x ∷ used Named y ∷ []
what_uses fs (RWhat-F.Get x y) = used Written x ∷ used Named y ∷ []
what_uses fs (RWhat-F.Put x e) = used Named x ∷ names_in e
what_uses fs (RWhat-F.If e first other) = names_in e ++ (all_uses fs first ++ all_uses fs other)
what_uses fs (RWhat-F.While e body) = names_in e ++ all_uses fs body
what_uses fs (RWhat-F.For first test step body) = all_uses fs first ++ (names_in_option test ++ (all_uses fs step ++ all_uses fs body))
what_uses fs (RWhat-F.RWhat::Block body) = all_uses fs body
what_uses fs (RWhat-F.RWhat::Call c) = call_uses fs c
what_uses fs (RWhat-F.Try body x y handler) = all_uses fs body ++ (variable_uses y ++ all_uses fs handler)
what_uses fs (RWhat-F.Throw x e) = names_in_option e
what_uses fs (RWhat-F.Par branches) = all_uses fs branches
