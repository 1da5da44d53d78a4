-- The distinct identifiers of a program, in the order of their first occurrences.
use Rattle.std.specs.Prelude.{ℕ, List, [], ◌∷◌, ◌++◌, Option, Some, None, map, length, position}
use Rattle.std.specs.List.{find}
use Rattle.std.specs.Str.{bytes_eq}
use Rattle.shim_syntax.specs.declared.tree.Expr.{Expr, fold-Expr, Expr-F}
use Rattle.shim_syntax.specs.declared.tree.Call.{Call as CallOf}
use Rattle.shim_syntax.specs.declared.tree.Param.{Param}
use Rattle.shim_syntax.specs.declared.tree.Function.{Function}
use Rattle.shim_syntax.specs.declared.tree.Stmt.{Stmt, fold-Stmt}
use Rattle.shim_syntax.specs.declared.tree.What.{What-F}
use Rattle.shim_syntax.specs.declared.tree.Branch.{Branch as BranchOf, fold-Branch}
use Rattle.shim_syntax.specs.declared.tree.BranchWhat.{BranchWhat-F}

-- a list of names, each with its bytes
abbrev pub Texts : Type 0
Texts = List (List ℕ)

-- how a part of the program changes the list of the names before it
abbrev pub Adds : Type 0
Adds = Texts → Texts

-- the list `new` if no name is given, and `old` if one is
abbrev pub unless_there : Option (List ℕ) → Texts → Texts → Texts
unless_there None new old = new
unless_there (Some x) new old = old

-- the known names, and after them this one where it is new
abbrev pub with_name : List ℕ → Adds
with_name x known = unless_there (find (λ n. bytes_eq n x) known) (known ++ x ∷ []) known

-- all these changes of the list, one after the other
abbrev pub in_turn : List Adds → Adds
in_turn [] known = known
in_turn (f ∷ fs) known = in_turn fs (f known)

-- what an expression adds, given what each operand adds
abbrev pub collect_expr_step : Expr-F Adds → Adds
collect_expr_step (Expr-F.Number n) known = known
collect_expr_step (Expr-F.Var x) known = with_name x known
collect_expr_step (Expr-F.Unary op a) known = a known
collect_expr_step (Expr-F.Binary op a b) known = b (a known)

-- The known names, followed by those names of the expression that are new. The same of expressions, of an optional one and of a call: `with_exprs`, `with_option`, `with_call`.
unfoldable pub with_expr : Expr → Adds
with_expr = fold-Expr Adds collect_expr_step

abbrev pub with_exprs : List Expr → Adds
with_exprs [] known = known
with_exprs (e ∷ es) known = with_exprs es (with_expr e known)

abbrev pub with_option : Option Expr → Adds
with_option None known = known
with_option (Some e) known = with_expr e known

-- the variable of a handler, where it has one
abbrev pub with_variable : Option (List ℕ) → Adds
with_variable None known = known
with_variable (Some x) known = with_name x known

abbrev pub with_call : CallOf → Adds
with_call c known = with_exprs c.args (with_name c.function known)

-- what a branch adds, given what each statement of its block adds
abbrev pub branch_names : BranchWhat-F Adds Adds Adds Adds → Adds
branch_names (BranchWhat-F.BranchWhat::Block body) = in_turn body
branch_names (BranchWhat-F.BranchWhat::Call c) = with_call c

-- what a statement adds, given what each statement and each branch inside it adds
abbrev pub what_names : What-F Adds Adds Adds Adds → Adds
what_names (What-F.Declare ty x e) known = with_option e (with_name x known)
what_names (What-F.Assign x e) known = with_expr e (with_name x known)
what_names (What-F.Next x) known = with_name x known
what_names (What-F.NextAssign x e) known = with_expr e (with_name x known)
what_names (What-F.AssignNext x y) known = with_name y (with_name x known)
what_names (What-F.Get x y) known = with_name y (with_name x known)
what_names (What-F.Put x e) known = with_expr e (with_name x known)
what_names (What-F.If e first other) known = in_turn other (in_turn first (with_expr e known))
what_names (What-F.While e body) known = in_turn body (with_expr e known)
what_names (What-F.For first test step body) known = in_turn body (in_turn step (with_option test (in_turn first known)))
what_names (What-F.What::Block body) known = in_turn body known
what_names (What-F.What::Call c) known = with_call c known
what_names (What-F.Try body x y handler) known = in_turn handler (with_variable y (with_name x (in_turn body known)))
what_names (What-F.Throw x e) known = with_option e (with_name x known)
what_names (What-F.Par branches) known = in_turn branches known

-- The known names, followed by those names of the statement that are new. The same of a branch, of statements and of branches: `with_branch`, `with_stmts`, `with_branches`.
abbrev pub with_stmt : Stmt → Adds
with_stmt = fold-Stmt Adds Adds Adds Adds branch_names what_names (λ b. b.what) (λ s. s.what)

abbrev pub with_branch : BranchOf → Adds
with_branch = fold-Branch Adds Adds Adds Adds branch_names what_names (λ b. b.what) (λ s. s.what)

abbrev pub with_stmts : List Stmt → Adds
with_stmts body = in_turn (map with_stmt body)

abbrev pub with_branches : List BranchOf → Adds
with_branches branches = in_turn (map with_branch branches)

-- the known names, followed by those of the list that are new
abbrev pub with_texts : Texts → Adds
with_texts [] known = known
with_texts (x ∷ xs) known = with_texts xs (with_name x known)

abbrev pub param_names : List Param → Texts
param_names [] = []
param_names (p ∷ ps) = p.name ∷ param_names ps

-- the known names, followed by those of the parameters that are new
abbrev pub with_params : List Param → Adds
with_params [] known = known
with_params (p ∷ ps) known = with_params ps (with_name p.name known)

-- The known names, followed by those names of the function that are new: its own, its parameters', those of its exceptions, and those in its body. The same of functions: `with_functions`.
unfoldable pub with_function : Function → Adds
with_function f known = with_stmts f.body (with_texts f.throws (with_params f.params (with_name f.name known)))

abbrev pub with_functions : List Function → Adds
with_functions [] known = known
with_functions (f ∷ fs) known = with_functions fs (with_function f known)

-- the position if there is one, and else n
abbrev pub position_else : ℕ → Option ℕ → ℕ
position_else n None = n
position_else n (Some at) = at

-- the place of the name in the list, and the length of the list where it isn't there
abbrev pub name_index : Texts → List ℕ → ℕ
name_index names x = position_else (length names) (position (λ n. bytes_eq n x) names)
