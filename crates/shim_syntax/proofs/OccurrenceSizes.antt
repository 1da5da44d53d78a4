-- A program has no more identifiers than its size, and so no more names.
use Rattle.std.proofs.Common.{ℕ, suc, ◌+◌, ◌≡◌, ◌≤◌, List, [], ◌∷◌, ◌++◌, Option, Some, None, length, map, ap, subst, arith}
use Rattle.std.specs.List.{find}
use Rattle.std.specs.Str.{bytes_eq}
use Rattle.std.proofs.lemmas.List.{length-append}
use Rattle.shim_syntax.specs.declared.tree.Expr.{Expr, Expr-F, fold-roll-Expr, ind-Expr, map-Expr, roll-Expr}
use Rattle.shim_syntax.specs.declared.tree.Call.{Call}
use Rattle.shim_syntax.specs.declared.tree.Param.{Param}
use Rattle.shim_syntax.specs.declared.tree.Function.{Function}
use Rattle.shim_syntax.specs.declared.tree.Stmt.{Stmt}
use Rattle.shim_syntax.specs.declared.tree.What.{What, What-F, map-What}
use Rattle.shim_syntax.specs.declared.tree.Branch.{Branch}
use Rattle.shim_syntax.specs.declared.tree.BranchWhat.{BranchWhat, BranchWhat-F, map-BranchWhat}
use Rattle.shim_syntax.specs.Names.{Texts, with_name, unless_there, with_texts, with_functions, param_names}
use Rattle.shim_syntax.specs.Occurrences.{concatenated, expr_occurs, in_expr, in_exprs, in_option, in_variable, in_call, in_stmt, in_function, identifiers}
use Rattle.shim_syntax.specs.Sizes.{sum_of, expr_counts, expr_size, exprs_size, option_size, variable_size, call_size, branch_counts, what_counts, what_size, stmt_size, branch_size, stmts_size, function_size, functions_size}
use Rattle.shim_syntax.proofs.SizeSteps.{branch_what_size, of_branch, at_branch, of_stmt, at_what}
use Rattle.shim_syntax.proofs.OccurrenceLemmas.{in_branch_what, in_what, in_branch, branch_what_at, what_at, rolled_branch_what, rolled_what, stmt_of_line, branch_of_line, names_are_the_identifiers}
use Rattle.shim_syntax.proofs.FormInduction.{InBranchWhat, InWhat, Each, each, each_stmt}

-- the same bound, of a list and a size that are equal to these
same_few : (a b : Texts) (m n : ℕ) → a ≡ b → m ≡ n → length b ≤ n → length a ≤ m
same_few a b m n p q h = omega (arith, ap (λ (xs : Texts). length xs) p, q, h)

joined_few : (a b : Texts) (m n : ℕ) → length a ≤ m → length b ≤ n → length (a ++ b) ≤ m + n
joined_few a b m n p q = omega (arith, length-append a b, p, q)

abbrev FewInExpr : Type 0
FewInExpr = (e : Expr) × (length (in_expr e) ≤ expr_size e)

expr_layer : (y : Expr-F FewInExpr)
    → length (expr_occurs (map-Expr Expr Texts in_expr (map-Expr FewInExpr Expr (λ e. e.0) y))) ≤ expr_counts (map-Expr Expr ℕ expr_size (map-Expr FewInExpr Expr (λ e. e.0) y))
expr_layer (Expr-F.Number n) = omega arith
expr_layer (Expr-F.Var x) = omega arith
expr_layer (Expr-F.Unary op a) = omega (arith, a.1)
expr_layer (Expr-F.Binary op a b) = omega (arith, joined_few (in_expr a.0) (in_expr b.0) _ _ a.1 b.1)

expr_few : (e : Expr) → length (in_expr e) ≤ expr_size e
unfolding expr_size
expr_few = ind-Expr (λ e. length (in_expr e) ≤ expr_size e) (λ x y is.
    subst (λ z. length (in_expr (roll-Expr z)) ≤ expr_size (roll-Expr z)) is
    (same_few _ _ _ _
    (fold-roll-Expr Texts expr_occurs (map-Expr FewInExpr Expr (λ e. e.0) y))
    (fold-roll-Expr ℕ expr_counts (map-Expr FewInExpr Expr (λ e. e.0) y))
    (expr_layer y)))

exprs_few : (es : List Expr) → length (in_exprs es) ≤ exprs_size es
exprs_few [] = omega arith
exprs_few (e ∷ es) = joined_few (in_expr e) (in_exprs es) _ _ (expr_few e) (exprs_few es)

option_few : (e : Option Expr) → length (in_option e) ≤ option_size e
option_few None = omega arith
option_few (Some e) = expr_few e

variable_few : (y : Option (List ℕ)) → length (in_variable y) ≤ variable_size y
variable_few None = omega arith
variable_few (Some x) = omega arith

call_few : (c : Call) → length (in_call c) ≤ call_size c
call_few c = omega (arith, exprs_few c.args)

-- the identifiers of a part are no more than its size
abbrev FewInBranch : Branch → Type 0
FewInBranch b = length (in_branch b) ≤ branch_size b

abbrev FewInStmt : Stmt → Type 0
FewInStmt s = length (in_stmt s) ≤ stmt_size s

abbrev texts : List Stmt → Texts
texts body = concatenated (map in_stmt body)

stmts_few : (body : List Stmt) → Each FewInStmt body → length (texts body) ≤ stmts_size body
stmts_few [] h = omega arith
stmts_few (s ∷ body) h = joined_few (in_stmt s) (texts body) _ _ h.0 (stmts_few body h.1)

branches_few : (bs : List Branch) → Each FewInBranch bs → length (concatenated (map in_branch bs)) ≤ sum_of (map branch_size bs)
branches_few [] h = omega arith
branches_few (b ∷ bs) h = joined_few (in_branch b) (concatenated (map in_branch bs)) _ _ h.0 (branches_few bs h.1)

branch_what_layer : (y : BranchWhat-F BranchWhat What Branch Stmt) → InBranchWhat FewInStmt y
    → length (branch_what_at y) ≤ branch_counts (map-BranchWhat BranchWhat What Branch Stmt ℕ ℕ ℕ ℕ branch_what_size what_size branch_size stmt_size y)
branch_what_layer (BranchWhat-F.BranchWhat::Block body) h = omega (arith, stmts_few body h)
branch_what_layer (BranchWhat-F.BranchWhat::Call c) h = call_few c

what_layer : (y : What-F BranchWhat What Branch Stmt) → InWhat FewInBranch FewInStmt y
    → length (what_at y) ≤ what_counts (map-What BranchWhat What Branch Stmt ℕ ℕ ℕ ℕ branch_what_size what_size branch_size stmt_size y)
what_layer (What-F.Declare ty x e) h = omega (arith, option_few e)
what_layer (What-F.Assign x e) h = omega (arith, expr_few e)
what_layer (What-F.Next x) h = omega arith
what_layer (What-F.NextAssign x e) h = omega (arith, expr_few e)
what_layer (What-F.AssignNext x y) h = omega arith
what_layer (What-F.Get x y) h = omega arith
what_layer (What-F.Put x e) h = omega (arith, expr_few e)
what_layer (What-F.If e first other) h =
    omega (arith, joined_few (in_expr e) (texts first ++ texts other) _ _ (expr_few e) (joined_few (texts first) (texts other) _ _ (stmts_few first h.0) (stmts_few other h.1)))
what_layer (What-F.While e body) h = omega (arith, joined_few (in_expr e) (texts body) _ _ (expr_few e) (stmts_few body h))
what_layer (What-F.For first test step body) h =
    omega (
      arith,
      joined_few (texts first) (in_option test ++ (texts step ++ texts body)) _ _ (stmts_few first h.0)
          (joined_few (in_option test) (texts step ++ texts body) _ _ (option_few test) (joined_few (texts step) (texts body) _ _ (stmts_few step h.1) (stmts_few body h.2))),
    )
what_layer (What-F.What::Block body) h = omega (arith, stmts_few body h)
what_layer (What-F.What::Call c) h = call_few c
what_layer (What-F.Try body x y handler) h =
    omega (arith, length-append (texts body) (x ∷ (in_variable y ++ texts handler)), stmts_few body h.0, joined_few (in_variable y) (texts handler) _ _ (variable_few y) (stmts_few handler h.1))
what_layer (What-F.Throw x e) h = omega (arith, option_few e)
what_layer (What-F.Par bs) h = omega (arith, branches_few bs h)

stmt_few : (s : Stmt) → length (in_stmt s) ≤ stmt_size s
unfolding branch_size stmt_size
stmt_few = each_stmt (λ w. length (in_branch_what w) ≤ branch_what_size w) (λ w. length (in_what w) ≤ what_size w) FewInBranch FewInStmt
    (λ y h. same_few _ _ _ _ (rolled_branch_what y) (at_branch y) (branch_what_layer y h))
    (λ y h. same_few _ _ _ _ (rolled_what y) (at_what y) (what_layer y h))
    (λ line x h. same_few _ _ _ _ (branch_of_line line x) (of_branch (record { line = line; what = x })) h)
    (λ line x h. same_few _ _ _ _ (stmt_of_line line x) (of_stmt (record { line = line; what = x })) h)

params_few : (ps : List Param) → length (param_names ps) ≡ length ps
params_few [] = omega arith
params_few (p ∷ ps) = omega (arith, params_few ps)

function_few : (f : Function) → length (in_function f) ≤ function_size f
function_few f =
    omega (arith, params_few f.params, length-append (param_names f.params) (f.throws ++ texts f.body), length-append f.throws (texts f.body), stmts_few f.body (each FewInStmt stmt_few f.body))

functions_few : (fs : List Function) → length (identifiers fs) ≤ functions_size fs
functions_few [] = omega arith
functions_few (f ∷ fs) = joined_few (in_function f) (identifiers fs) _ _ (function_few f) (functions_few fs)

one_name : (x : List ℕ) (known : Texts) (o : Option (List ℕ)) → length (unless_there o (known ++ x ∷ []) known) ≤ suc (length known)
one_name x known None = omega (arith, length-append known (x ∷ []))
one_name x known (Some y) = omega arith

more_names : (xs known : Texts) → length (with_texts xs known) ≤ length xs + length known
more_names [] known = omega arith
more_names (x ∷ xs) known = omega (arith, more_names xs (with_name x known), one_name x known (find (λ n. bytes_eq n x) known))

pub names_few : (fs : List Function) → length (with_functions fs []) ≤ functions_size fs
names_few fs = omega (arith, ap (λ (xs : Texts). length xs) (names_are_the_identifiers fs), more_names (identifiers fs) [], functions_few fs)

pub functions_counted : (fs : List Function) → length fs ≤ functions_size fs
functions_counted [] = omega arith
functions_counted (f ∷ fs) = omega (arith, functions_counted fs)
