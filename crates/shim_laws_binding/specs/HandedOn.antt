-- What the calls of a function hand on to the functions that they call.
use Rattle.std.specs.Prelude.{◌≡◌, List, [], ◌∷◌, ◌++◌, Some, map, length, slice_get, All}
use Rattle.shim_scopes.specs.declared.form.Form.{Form}
use Rattle.shim_scopes.specs.declared.tree.RFunction.{RFunction}
use Rattle.shim_scopes.specs.declared.tree.RCall.{RCall}
use Rattle.shim_scopes.specs.declared.tree.RStmt.{RStmt, fold-RStmt}
use Rattle.shim_scopes.specs.declared.tree.RWhat.{RWhat-F}
use Rattle.shim_scopes.specs.declared.tree.RBranchWhat.{RBranchWhat-F}
use Rattle.shim_laws_binding.specs.Naming.{names_at, Naming, naming_of}
use Rattle.shim_laws_binding.specs.TextOrder.{concat}

abbrev pub Calls : Type 0
Calls = List RCall

-- the calls of a branch, given those of the statements in it
abbrev pub branch_what_calls : RBranchWhat-F Calls Calls Calls Calls → Calls
branch_what_calls (RBranchWhat-F.RBranchWhat::Block body) = concat body
branch_what_calls (RBranchWhat-F.RBranchWhat::Call c) = c ∷ []

-- the calls of a statement and of those inside it, given those of its parts
abbrev pub what_calls : RWhat-F Calls Calls Calls Calls → Calls
what_calls (RWhat-F.If test first other) = concat first ++ concat other
what_calls (RWhat-F.While test body) = concat body
what_calls (RWhat-F.For first test step body) = concat first ++ (concat step ++ concat body)
what_calls (RWhat-F.RWhat::Block body) = concat body
what_calls (RWhat-F.RWhat::Call c) = c ∷ []
what_calls (RWhat-F.Try body number slot handler) = concat body ++ concat handler
what_calls (RWhat-F.Par branches) = concat branches
what_calls _ = []

-- the calls of a statement of a program and of those inside it
abbrev pub stmt_calls : RStmt → Calls
stmt_calls = fold-RStmt Calls Calls Calls Calls branch_what_calls what_calls (λ b. b.what) (λ s. s.what)

-- the calls of some statements and of those inside them
abbrev pub calls_among : List RStmt → Calls
calls_among body = concat (map stmt_calls body)

-- The call `c` has the number of a function, its callee, and gives as many arguments as the callee takes. For each exception of the callee's `throws` it gives one that has the same name by `n`.
pub record HandsOn (form : Form) (n : Naming) (c : RCall) : Type 0 where
  pub callee : RFunction
  pub called : slice_get form.functions c.function ≡ Some callee
  pub arguments : length c.args ≡ length callee.params
  pub exceptions : map n.exception c.throws ≡ names_at form.names callee.throws

-- `HandsOn` holds of each call in each function of the form, with the naming of that function
abbrev pub AllHandOn : Form → Type 0
AllHandOn form = All (λ (r : RFunction). All (HandsOn form (naming_of form r)) (calls_among r.body)) form.functions
