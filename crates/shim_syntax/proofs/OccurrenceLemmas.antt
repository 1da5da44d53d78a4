-- The list of names takes in the identifiers of the text, one after another.
use Rattle.std.proofs.Common.{ℕ, ◌≡◌, ◌∙◌, List, [], ◌∷◌, ◌++◌, Option, Some, None, map, refl, sym, ap, subst}
use Rattle.shim_syntax.specs.declared.tree.Expr.{Expr, Expr-F, fold-roll-Expr, ind-Expr, map-Expr, roll-Expr}
use Rattle.shim_syntax.specs.declared.tree.Call.{Call}
use Rattle.shim_syntax.specs.declared.tree.Param.{Param}
use Rattle.shim_syntax.specs.declared.tree.Function.{Function}
use Rattle.shim_syntax.specs.declared.tree.Stmt.{Stmt, fold-roll-Stmt}
use Rattle.shim_syntax.specs.declared.tree.What.{What, What-F, fold-What, fold-roll-What, map-What, roll-What}
use Rattle.shim_syntax.specs.declared.tree.Branch.{Branch, fold-Branch, fold-roll-Branch}
use Rattle.shim_syntax.specs.declared.tree.BranchWhat.{BranchWhat, BranchWhat-F, fold-BranchWhat, fold-roll-BranchWhat, map-BranchWhat, roll-BranchWhat}
use Rattle.shim_syntax.specs.Names.{Texts, Adds, with_name, in_turn, collect_expr_step, with_expr, with_exprs, with_option, with_variable, with_call, branch_names, what_names, with_stmt, with_branch, with_stmts, with_texts, param_names, with_params, with_function, with_functions}
use Rattle.shim_syntax.specs.Occurrences.{concatenated, expr_occurs, in_expr, in_exprs, in_option, in_variable, in_call, branch_occurs, what_occurs, in_stmt, in_function, identifiers}
use Rattle.shim_syntax.proofs.DistinctLemmas.{with_branch_what, with_what}
use Rattle.shim_syntax.proofs.FormInduction.{InBranchWhat, InWhat, Each, each, each_stmt}

-- the list changes as by these names one after another
abbrev Takes : Adds → Texts → Type 0
Takes f xs = (known : Texts) → f known ≡ with_texts xs known

both : (xs ys known : Texts) → with_texts (xs ++ ys) known ≡ with_texts ys (with_texts xs known)
both [] ys known = refl
both (x ∷ xs) ys known = both xs ys (with_name x known)

one_then : (f g : Adds) (a b : Texts) → Takes f a → Takes g b → Takes (λ known. g (f known)) (a ++ b)
one_then f g a b p q known = ap g (p known) ∙ q (with_texts a known) ∙ sym (both a b known)

params_taken : (ps : List Param) → Takes (with_params ps) (param_names ps)
params_taken [] known = refl
params_taken (p ∷ ps) known = params_taken ps (with_name p.name known)

expr_layer : (y : Expr-F ((e : Expr) × Takes (with_expr e) (in_expr e)))
    → Takes (collect_expr_step (map-Expr Expr Adds with_expr (map-Expr ((e : Expr) × Takes (with_expr e) (in_expr e)) Expr (λ e. e.0) y)))
    (expr_occurs (map-Expr Expr Texts in_expr (map-Expr ((e : Expr) × Takes (with_expr e) (in_expr e)) Expr (λ e. e.0) y)))
expr_layer (Expr-F.Number n) known = refl
expr_layer (Expr-F.Var x) known = refl
expr_layer (Expr-F.Unary op a) known = a.1 known
expr_layer (Expr-F.Binary op a b) known = one_then (with_expr a.0) (with_expr b.0) (in_expr a.0) (in_expr b.0) a.1 b.1 known

-- the same fact, of functions and lists that are equal to these
same_taken : (f g : Adds) (a b : Texts) → f ≡ g → a ≡ b → Takes g b → Takes f a
same_taken f g a b p q h known = ap (λ (k : Adds). k known) p ∙ h known ∙ sym (ap (λ (xs : Texts). with_texts xs known) q)

expr_taken : (e : Expr) → Takes (with_expr e) (in_expr e)
unfolding with_expr
expr_taken = ind-Expr (λ e. Takes (with_expr e) (in_expr e)) (λ x y is.
    subst (λ z. Takes (with_expr (roll-Expr z)) (in_expr (roll-Expr z))) is
    (same_taken _ _ _ _
    (fold-roll-Expr Adds collect_expr_step (map-Expr ((e : Expr) × Takes (with_expr e) (in_expr e)) Expr (λ e. e.0) y))
    (fold-roll-Expr Texts expr_occurs (map-Expr ((e : Expr) × Takes (with_expr e) (in_expr e)) Expr (λ e. e.0) y))
    (expr_layer y)))

exprs_taken : (es : List Expr) → Takes (with_exprs es) (in_exprs es)
exprs_taken [] known = refl
exprs_taken (e ∷ es) known = one_then (with_expr e) (with_exprs es) (in_expr e) (in_exprs es) (expr_taken e) (exprs_taken es) known

option_taken : (e : Option Expr) → Takes (with_option e) (in_option e)
option_taken None known = refl
option_taken (Some e) known = expr_taken e known

variable_taken : (y : Option (List ℕ)) → Takes (with_variable y) (in_variable y)
variable_taken None known = refl
variable_taken (Some x) known = refl

call_taken : (c : Call) → Takes (with_call c) (in_call c)
call_taken c known = exprs_taken c.args (with_name c.function known)

abbrev pub in_branch_what : BranchWhat → Texts
in_branch_what = fold-BranchWhat Texts Texts Texts Texts branch_occurs what_occurs (λ b. b.what) (λ s. s.what)

abbrev pub in_what : What → Texts
in_what = fold-What Texts Texts Texts Texts branch_occurs what_occurs (λ b. b.what) (λ s. s.what)

abbrev pub in_branch : Branch → Texts
in_branch = fold-Branch Texts Texts Texts Texts branch_occurs what_occurs (λ b. b.what) (λ s. s.what)

abbrev pub branch_what_at : BranchWhat-F BranchWhat What Branch Stmt → Texts
branch_what_at z = branch_occurs (map-BranchWhat BranchWhat What Branch Stmt Texts Texts Texts Texts in_branch_what in_what in_branch in_stmt z)

abbrev pub what_at : What-F BranchWhat What Branch Stmt → Texts
what_at z = what_occurs (map-What BranchWhat What Branch Stmt Texts Texts Texts Texts in_branch_what in_what in_branch in_stmt z)

pub rolled_branch_what : (z : BranchWhat-F BranchWhat What Branch Stmt) → in_branch_what (roll-BranchWhat z) ≡ branch_what_at z
rolled_branch_what z = fold-roll-BranchWhat Texts Texts Texts Texts branch_occurs what_occurs (λ b. b.what) (λ s. s.what) z

pub rolled_what : (z : What-F BranchWhat What Branch Stmt) → in_what (roll-What z) ≡ what_at z
rolled_what z = fold-roll-What Texts Texts Texts Texts branch_occurs what_occurs (λ b. b.what) (λ s. s.what) z

pub stmt_of_line : (line : ℕ) (x : What) → in_stmt (record { line = line; what = x }) ≡ in_what x
stmt_of_line line x = fold-roll-Stmt Texts Texts Texts Texts branch_occurs what_occurs (λ b. b.what) (λ s. s.what) (record { line = line; what = x })

pub branch_of_line : (line : ℕ) (x : BranchWhat) → in_branch (record { line = line; what = x }) ≡ in_branch_what x
branch_of_line line x = fold-roll-Branch Texts Texts Texts Texts branch_occurs what_occurs (λ b. b.what) (λ s. s.what) (record { line = line; what = x })

abbrev BranchTakes : Branch → Type 0
BranchTakes b = Takes (with_branch b) (in_branch b)

abbrev StmtTakes : Stmt → Type 0
StmtTakes s = Takes (with_stmt s) (in_stmt s)

abbrev texts : List Stmt → Texts
texts body = concatenated (map in_stmt body)

stmts_in_turn : (body : List Stmt) → Each StmtTakes body → Takes (with_stmts body) (texts body)
stmts_in_turn [] h known = refl
stmts_in_turn (s ∷ body) h known = one_then (with_stmt s) (with_stmts body) (in_stmt s) (texts body) h.0 (stmts_in_turn body h.1) known

branches_in_turn : (bs : List Branch) → Each BranchTakes bs → Takes (in_turn (map with_branch bs)) (concatenated (map in_branch bs))
branches_in_turn [] h known = refl
branches_in_turn (b ∷ bs) h known = one_then (with_branch b) (in_turn (map with_branch bs)) (in_branch b) (concatenated (map in_branch bs)) h.0 (branches_in_turn bs h.1) known

branch_what_layer : (y : BranchWhat-F BranchWhat What Branch Stmt) → InBranchWhat StmtTakes y
    → Takes (branch_names (map-BranchWhat BranchWhat What Branch Stmt Adds Adds Adds Adds with_branch_what with_what with_branch with_stmt y))
    (branch_what_at y)
branch_what_layer (BranchWhat-F.BranchWhat::Block body) h known = stmts_in_turn body h known
branch_what_layer (BranchWhat-F.BranchWhat::Call c) h known = call_taken c known

what_layer : (y : What-F BranchWhat What Branch Stmt) → InWhat BranchTakes StmtTakes y
    → Takes (what_names (map-What BranchWhat What Branch Stmt Adds Adds Adds Adds with_branch_what with_what with_branch with_stmt y))
    (what_at y)
what_layer (What-F.Declare ty x e) h known = option_taken e (with_name x known)
what_layer (What-F.Assign x e) h known = expr_taken e (with_name x known)
what_layer (What-F.Next x) h known = refl
what_layer (What-F.NextAssign x e) h known = expr_taken e (with_name x known)
what_layer (What-F.AssignNext x y) h known = refl
what_layer (What-F.Get x y) h known = refl
what_layer (What-F.Put x e) h known = expr_taken e (with_name x known)
what_layer (What-F.If e first other) h known =
    one_then (with_expr e) (λ k. with_stmts other (with_stmts first k)) (in_expr e) (texts first ++ texts other) (expr_taken e)
    (one_then (with_stmts first) (with_stmts other) (texts first) (texts other) (stmts_in_turn first h.0) (stmts_in_turn other h.1)) known
what_layer (What-F.While e body) h known = one_then (with_expr e) (with_stmts body) (in_expr e) (texts body) (expr_taken e) (stmts_in_turn body h) known
what_layer (What-F.For first test step body) h known =
    one_then (with_stmts first) (λ k. with_stmts body (with_stmts step (with_option test k))) (texts first) (in_option test ++ (texts step ++ texts body)) (stmts_in_turn first h.0)
    (one_then (with_option test) (λ k. with_stmts body (with_stmts step k)) (in_option test) (texts step ++ texts body) (option_taken test)
    (one_then (with_stmts step) (with_stmts body) (texts step) (texts body) (stmts_in_turn step h.1) (stmts_in_turn body h.2))) known
what_layer (What-F.What::Block body) h known = stmts_in_turn body h known
what_layer (What-F.What::Call c) h known = call_taken c known
what_layer (What-F.Try body x y handler) h known =
    one_then (with_stmts body) (λ k. with_stmts handler (with_variable y (with_name x k))) (texts body) (x ∷ (in_variable y ++ texts handler)) (stmts_in_turn body h.0)
    (λ k. one_then (with_variable y) (with_stmts handler) (in_variable y) (texts handler) (variable_taken y) (stmts_in_turn handler h.1) (with_name x k)) known
what_layer (What-F.Throw x e) h known = option_taken e (with_name x known)
what_layer (What-F.Par bs) h known = branches_in_turn bs h known

stmt_taken : (s : Stmt) → Takes (with_stmt s) (in_stmt s)
stmt_taken = each_stmt (λ w. Takes (with_branch_what w) (in_branch_what w)) (λ w. Takes (with_what w) (in_what w)) BranchTakes StmtTakes
    (λ y h. same_taken _ _ _ _ (fold-roll-BranchWhat Adds Adds Adds Adds branch_names what_names (λ b. b.what) (λ s. s.what) y) (rolled_branch_what y) (branch_what_layer y h))
    (λ y h. same_taken _ _ _ _ (fold-roll-What Adds Adds Adds Adds branch_names what_names (λ b. b.what) (λ s. s.what) y) (rolled_what y) (what_layer y h))
    (λ line x h. same_taken _ _ _ _ (fold-roll-Branch Adds Adds Adds Adds branch_names what_names (λ b. b.what) (λ s. s.what) (record { line = line; what = x })) (branch_of_line line x) h)
    (λ line x h. same_taken _ _ _ _ (fold-roll-Stmt Adds Adds Adds Adds branch_names what_names (λ b. b.what) (λ s. s.what) (record { line = line; what = x })) (stmt_of_line line x) h)

function_taken : (f : Function) → Takes (with_function f) (in_function f)
unfolding with_function
function_taken f known =
    one_then (with_params f.params) (λ k. with_stmts f.body (with_texts f.throws k)) (param_names f.params) (f.throws ++ texts f.body) (params_taken f.params)
    (one_then (with_texts f.throws) (with_stmts f.body) f.throws (texts f.body) (λ k. refl) (stmts_in_turn f.body (each StmtTakes stmt_taken f.body))) (with_name f.name known)

functions_taken : (fs : List Function) → Takes (with_functions fs) (identifiers fs)
functions_taken [] known = refl
functions_taken (f ∷ fs) known = one_then (with_function f) (with_functions fs) (in_function f) (identifiers fs) (function_taken f) (functions_taken fs) known

pub names_are_the_identifiers : (fs : List Function) → with_functions fs [] ≡ with_texts (identifiers fs) []
names_are_the_identifiers fs = functions_taken fs []
