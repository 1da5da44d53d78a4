-- What the list of names takes in stands in it once.
use Rattle.std.proofs.Common.{ℕ, ◌≡◌, ◌⊎◌, inl, inr, List, [], ◌∷◌, ◌++◌, Option, Some, None, true, false, map, refl, sym, subst}
use Rattle.std.specs.List.{find}
use Rattle.std.specs.Str.{bytes_eq}
use Rattle.std.proofs.lemmas.Bool.{cases_Bool}
use Rattle.std.proofs.lemmas.Slice.Eq.{bytes_eq-Decides}
use Rattle.shim_syntax.specs.declared.tree.Expr.{Expr, Expr-F, fold-roll-Expr, ind-Expr, map-Expr, roll-Expr}
use Rattle.shim_syntax.specs.declared.tree.Call.{Call}
use Rattle.shim_syntax.specs.declared.tree.Param.{Param}
use Rattle.shim_syntax.specs.declared.tree.Function.{Function}
use Rattle.shim_syntax.specs.declared.tree.Stmt.{Stmt, fold-roll-Stmt}
use Rattle.shim_syntax.specs.declared.tree.What.{What, What-F, fold-What, fold-roll-What, map-What}
use Rattle.shim_syntax.specs.declared.tree.Branch.{Branch, fold-roll-Branch}
use Rattle.shim_syntax.specs.declared.tree.BranchWhat.{BranchWhat, BranchWhat-F, fold-BranchWhat, fold-roll-BranchWhat, map-BranchWhat}
use Rattle.shim_syntax.specs.Names.{Texts, Adds, unless_there, with_name, in_turn, collect_expr_step, with_expr, with_exprs, with_option, with_variable, with_call, branch_names, what_names, with_stmt, with_branch, with_stmts, with_texts, with_params, with_function, with_functions}
use Rattle.shim_syntax.specs.Distinct.{IsNew, AreDistinct}
use Rattle.shim_syntax.proofs.FormInduction.{InBranchWhat, InWhat, Each, each, each_stmt}

abbrev Keeps : Adds → Type 0
Keeps f = (known : Texts) → AreDistinct known → AreDistinct (f known)

pub is_new_behind : (y x : List ℕ) (known : Texts) → IsNew y known → (x ≡ y → ⊥) → IsNew y (known ++ x ∷ [])
is_new_behind y x [] h other = (other, tt)
is_new_behind y x (n ∷ ns) h other = (h.0, is_new_behind y x ns h.1 other)

distinct_behind : (x : List ℕ) (known : Texts) → AreDistinct known → IsNew x known → AreDistinct (known ++ x ∷ [])
distinct_behind x [] d h = (tt, tt)
distinct_behind x (n ∷ ns) d h = (is_new_behind n x ns d.0 (λ same. h.0 (sym same)), distinct_behind x ns d.1 h.1)

not_found_by : (x n : List ℕ) (ns : Texts) → (find (λ m. bytes_eq m x) ns ≡ None → IsNew x ns) → (bytes_eq n x ≡ true) ⊎ (bytes_eq n x ≡ false) → find (λ m. bytes_eq m x) (n ∷ ns) ≡ None → IsNew x (n ∷ ns)
not_found_by x n ns more (inl e) h = absurd (cc (e, h))
not_found_by x n ns more (inr e) h = (λ same. absurd (cc (e, (bytes_eq-Decides n x).1 same)), more (rw e at h))

pub not_found : (x : List ℕ) (ns : Texts) → find (λ m. bytes_eq m x) ns ≡ None → IsNew x ns
not_found x [] h = tt
not_found x (n ∷ ns) h = not_found_by x n ns (not_found x ns) (cases_Bool (bytes_eq n x)) h

name_kept_by : (x : List ℕ) (known : Texts) (o : Option (List ℕ)) → find (λ m. bytes_eq m x) known ≡ o → AreDistinct known → AreDistinct (unless_there o (known ++ x ∷ []) known)
name_kept_by x known None e d = distinct_behind x known d (not_found x known e)
name_kept_by x known (Some y) e d = d

name_kept : (x : List ℕ) → Keeps (with_name x)
name_kept x known d = name_kept_by x known (find (λ m. bytes_eq m x) known) refl d

texts_kept : (xs : Texts) → Keeps (with_texts xs)
texts_kept [] known d = d
texts_kept (x ∷ xs) known d = texts_kept xs (with_name x known) (name_kept x known d)

params_kept : (ps : List Param) → Keeps (with_params ps)
params_kept [] known d = d
params_kept (p ∷ ps) known d = params_kept ps (with_name p.name known) (name_kept p.name known d)

abbrev ExprKeeps : Expr → Type 0
ExprKeeps e = Keeps (with_expr e)

expr_layer : (y : Expr-F ((e : Expr) × ExprKeeps e)) → Keeps (collect_expr_step (map-Expr Expr Adds with_expr (map-Expr ((e : Expr) × ExprKeeps e) Expr (λ e. e.0) y)))
expr_layer (Expr-F.Number n) known d = d
expr_layer (Expr-F.Var x) known d = name_kept x known d
expr_layer (Expr-F.Unary op a) known d = a.1 known d
expr_layer (Expr-F.Binary op a b) known d = b.1 (with_expr a.0 known) (a.1 known d)

expr_kept : (e : Expr) → Keeps (with_expr e)
unfolding with_expr
expr_kept = ind-Expr ExprKeeps (λ x y is.
    subst (λ z. Keeps (with_expr (roll-Expr z))) is
    (subst Keeps (sym (fold-roll-Expr Adds collect_expr_step (map-Expr ((e : Expr) × ExprKeeps e) Expr (λ e. e.0) y))) (expr_layer y)))

exprs_kept : (es : List Expr) → Keeps (with_exprs es)
exprs_kept [] known d = d
exprs_kept (e ∷ es) known d = exprs_kept es (with_expr e known) (expr_kept e known d)

option_kept : (e : Option Expr) → Keeps (with_option e)
option_kept None known d = d
option_kept (Some e) known d = expr_kept e known d

variable_kept : (y : Option (List ℕ)) → Keeps (with_variable y)
variable_kept None known d = d
variable_kept (Some x) known d = name_kept x known d

call_kept : (c : Call) → Keeps (with_call c)
call_kept c known d = exprs_kept c.args (with_name c.function known) (name_kept c.function known d)

abbrev pub with_branch_what : BranchWhat → Adds
with_branch_what = fold-BranchWhat Adds Adds Adds Adds branch_names what_names (λ b. b.what) (λ s. s.what)

abbrev pub with_what : What → Adds
with_what = fold-What Adds Adds Adds Adds branch_names what_names (λ b. b.what) (λ s. s.what)

abbrev BranchKeeps : Branch → Type 0
BranchKeeps b = Keeps (with_branch b)

abbrev StmtKeeps : Stmt → Type 0
StmtKeeps s = Keeps (with_stmt s)

stmts_in_turn : (body : List Stmt) → Each StmtKeeps body → Keeps (with_stmts body)
stmts_in_turn [] h known d = d
stmts_in_turn (s ∷ body) h known d = stmts_in_turn body h.1 (with_stmt s known) (h.0 known d)

branches_in_turn : (bs : List Branch) → Each BranchKeeps bs → Keeps (in_turn (map with_branch bs))
branches_in_turn [] h known d = d
branches_in_turn (b ∷ bs) h known d = branches_in_turn bs h.1 (with_branch b known) (h.0 known d)

branch_what_layer : (y : BranchWhat-F BranchWhat What Branch Stmt) → InBranchWhat StmtKeeps y
    → Keeps (branch_names (map-BranchWhat BranchWhat What Branch Stmt Adds Adds Adds Adds with_branch_what with_what with_branch with_stmt y))
branch_what_layer (BranchWhat-F.BranchWhat::Block body) h known d = stmts_in_turn body h known d
branch_what_layer (BranchWhat-F.BranchWhat::Call c) h known d = call_kept c known d

what_layer : (y : What-F BranchWhat What Branch Stmt) → InWhat BranchKeeps StmtKeeps y
    → Keeps (what_names (map-What BranchWhat What Branch Stmt Adds Adds Adds Adds with_branch_what with_what with_branch with_stmt y))
what_layer (What-F.Declare ty x e) h known d = option_kept e _ (name_kept x known d)
what_layer (What-F.Assign x e) h known d = expr_kept e _ (name_kept x known d)
what_layer (What-F.Next x) h known d = name_kept x known d
what_layer (What-F.NextAssign x e) h known d = expr_kept e _ (name_kept x known d)
what_layer (What-F.AssignNext x y) h known d = name_kept y _ (name_kept x known d)
what_layer (What-F.Get x y) h known d = name_kept y _ (name_kept x known d)
what_layer (What-F.Put x e) h known d = expr_kept e _ (name_kept x known d)
what_layer (What-F.If e first other) h known d = stmts_in_turn other h.1 _ (stmts_in_turn first h.0 _ (expr_kept e known d))
what_layer (What-F.While e body) h known d = stmts_in_turn body h _ (expr_kept e known d)
what_layer (What-F.For first test step body) h known d = stmts_in_turn body h.2 _ (stmts_in_turn step h.1 _ (option_kept test _ (stmts_in_turn first h.0 known d)))
what_layer (What-F.What::Block body) h known d = stmts_in_turn body h known d
what_layer (What-F.What::Call c) h known d = call_kept c known d
what_layer (What-F.Try body x y handler) h known d = stmts_in_turn handler h.1 _ (variable_kept y _ (name_kept x _ (stmts_in_turn body h.0 known d)))
what_layer (What-F.Throw x e) h known d = option_kept e _ (name_kept x known d)
what_layer (What-F.Par branches) h known d = branches_in_turn branches h known d

stmt_kept : (s : Stmt) → Keeps (with_stmt s)
stmt_kept = each_stmt (λ w. Keeps (with_branch_what w)) (λ w. Keeps (with_what w)) BranchKeeps StmtKeeps
    (λ y h. subst Keeps (sym (fold-roll-BranchWhat Adds Adds Adds Adds branch_names what_names (λ b. b.what) (λ s. s.what) y)) (branch_what_layer y h))
    (λ y h. subst Keeps (sym (fold-roll-What Adds Adds Adds Adds branch_names what_names (λ b. b.what) (λ s. s.what) y)) (what_layer y h))
    (λ line x h. subst Keeps (sym (fold-roll-Branch Adds Adds Adds Adds branch_names what_names (λ b. b.what) (λ s. s.what) (record { line = line; what = x }))) h)
    (λ line x h. subst Keeps (sym (fold-roll-Stmt Adds Adds Adds Adds branch_names what_names (λ b. b.what) (λ s. s.what) (record { line = line; what = x }))) h)

function_kept : (f : Function) → Keeps (with_function f)
unfolding with_function
function_kept f known d = stmts_in_turn f.body (each StmtKeeps stmt_kept f.body) _ (texts_kept f.throws _ (params_kept f.params _ (name_kept f.name known d)))

functions_kept : (fs : List Function) → Keeps (with_functions fs)
functions_kept [] known d = d
functions_kept (f ∷ fs) known d = functions_kept fs (with_function f known) (function_kept f known d)

pub names_stand_once : (fs : List Function) → AreDistinct (with_functions fs [])
names_stand_once fs = functions_kept fs [] tt
