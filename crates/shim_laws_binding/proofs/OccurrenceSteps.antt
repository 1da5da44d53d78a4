-- The identifiers of each kind of expression, statement and branch, by those of its parts.
use Rattle.std.proofs.Common.{ℕ, ℤ, ◌≡◌, ◌∙◌, List, [], ◌∷◌, ◌++◌, Option, map}
use Rattle.std.proofs.lemmas.List.{append-nil}
use Rattle.shim_base.specs.declared.types.Ty.{Ty}
use Rattle.shim_base.specs.declared.operators.BinOp.{BinOp}
use Rattle.shim_base.specs.declared.operators.UnOp.{UnOp}
use Rattle.shim_syntax.specs.declared.tree.Expr.{Expr, Expr-F, roll-Expr, fold-roll-Expr}
use Rattle.shim_syntax.specs.declared.tree.Expr.TheVariants as e
use Rattle.shim_syntax.specs.declared.tree.Call.{Call}
use Rattle.shim_syntax.specs.declared.tree.Stmt.{Stmt, fold-roll-Stmt}
use Rattle.shim_syntax.specs.declared.tree.What.{What, What-F, roll-What, fold-What, fold-roll-What, map-What}
use Rattle.shim_syntax.specs.declared.tree.What.TheVariants as st
use Rattle.shim_syntax.specs.declared.tree.Branch.{Branch, fold-Branch, fold-roll-Branch}
use Rattle.shim_syntax.specs.declared.tree.BranchWhat.{BranchWhat, BranchWhat-F, roll-BranchWhat, fold-BranchWhat, fold-roll-BranchWhat, map-BranchWhat}
use Rattle.shim_syntax.specs.declared.tree.BranchWhat.TheVariants as br
use Rattle.shim_syntax.specs.Names.{Texts}
use Rattle.shim_syntax.specs.Occurrences as occurs
use Rattle.shim_syntax.specs.Occurrences.{concatenated, expr_occurs, in_expr, in_option, in_call, branch_occurs, what_occurs, in_stmt}

pub in_number : (n : ℤ) → in_expr (e.Number n) ≡ []
unfolding roll-Expr denote.Hole.Carrier.roll
in_number n = fold-roll-Expr Texts expr_occurs (Expr-F.Number n)

pub in_variable : (x : List ℕ) → in_expr (e.Var x) ≡ x ∷ []
unfolding roll-Expr denote.Hole.Carrier.roll
in_variable x = fold-roll-Expr Texts expr_occurs (Expr-F.Var x)

pub in_unary : (op : UnOp) (a : Expr) → in_expr (e.Unary op a) ≡ in_expr a
unfolding roll-Expr denote.Hole.Carrier.roll
in_unary op a = fold-roll-Expr Texts expr_occurs (Expr-F.Unary op a)

pub in_binary : (op : BinOp) (a b : Expr) → in_expr (e.Binary op a b) ≡ in_expr a ++ in_expr b
unfolding roll-Expr denote.Hole.Carrier.roll
in_binary op a b = fold-roll-Expr Texts expr_occurs (Expr-F.Binary op a b)

pub in_branch_what : BranchWhat → Texts
in_branch_what = fold-BranchWhat Texts Texts Texts Texts branch_occurs what_occurs (λ b. b.what) (λ s. s.what)

pub in_what : What → Texts
in_what = fold-What Texts Texts Texts Texts branch_occurs what_occurs (λ b. b.what) (λ s. s.what)

pub in_branch : Branch → Texts
in_branch = fold-Branch Texts Texts Texts Texts branch_occurs what_occurs (λ b. b.what) (λ s. s.what)

abbrev pub in_stmts : List Stmt → Texts
in_stmts body = concatenated (map in_stmt body)

abbrev pub in_branches : List Branch → Texts
in_branches branches = concatenated (map in_branch branches)

of_stmt : (s : Stmt) → in_stmt s ≡ in_what s.what
unfolding in_what
of_stmt s = fold-roll-Stmt Texts Texts Texts Texts branch_occurs what_occurs (λ b. b.what) (λ s. s.what) (record { line = s.line; what = s.what })

of_branch : (b : Branch) → in_branch b ≡ in_branch_what b.what
unfolding in_branch in_branch_what
of_branch b = fold-roll-Branch Texts Texts Texts Texts branch_occurs what_occurs (λ b. b.what) (λ s. s.what) (record { line = b.line; what = b.what })

-- a statement, and a single one
pub in_one : (line : ℕ) (x : What) (t : Texts) → in_what x ≡ t → in_stmt (record { line = line; what = x }) ≡ t
in_one line x t e = of_stmt (record { line = line; what = x }) ∙ e

pub in_single : (line : ℕ) (x : What) (t : Texts) → in_what x ≡ t → in_stmts (record { line = line; what = x } ∷ []) ≡ t
in_single line x t e = append-nil (in_stmt (record { line = line; what = x })) ∙ in_one line x t e

at_what : (y : What-F BranchWhat What Branch Stmt) → in_what (roll-What y) ≡ what_occurs (map-What BranchWhat What Branch Stmt Texts Texts Texts Texts in_branch_what in_what in_branch in_stmt y)
unfolding in_branch_what in_what in_branch
at_what y = fold-roll-What Texts Texts Texts Texts branch_occurs what_occurs (λ b. b.what) (λ s. s.what) y

at_branch : (y : BranchWhat-F BranchWhat What Branch Stmt) → in_branch_what (roll-BranchWhat y) ≡ branch_occurs (map-BranchWhat BranchWhat What Branch Stmt Texts Texts Texts Texts in_branch_what in_what in_branch in_stmt y)
unfolding in_branch_what in_what in_branch
at_branch y = fold-roll-BranchWhat Texts Texts Texts Texts branch_occurs what_occurs (λ b. b.what) (λ s. s.what) y

pub in_declare : (ty : Ty) (x : List ℕ) (value : Option Expr) → in_what (st.Declare ty x value) ≡ x ∷ in_option value
unfolding roll-What denote.Hole.Carrier.roll
in_declare ty x value = at_what (What-F.Declare ty x value)

pub in_assign : (x : List ℕ) (a : Expr) → in_what (st.Assign x a) ≡ x ∷ in_expr a
unfolding roll-What denote.Hole.Carrier.roll
in_assign x a = at_what (What-F.Assign x a)

pub in_next : (x : List ℕ) → in_what (st.Next x) ≡ x ∷ []
unfolding roll-What denote.Hole.Carrier.roll
in_next x = at_what (What-F.Next x)

pub in_next_assign : (x : List ℕ) (a : Expr) → in_what (st.NextAssign x a) ≡ x ∷ in_expr a
unfolding roll-What denote.Hole.Carrier.roll
in_next_assign x a = at_what (What-F.NextAssign x a)

pub in_assign_next : (x y : List ℕ) → in_what (st.AssignNext x y) ≡ x ∷ y ∷ []
unfolding roll-What denote.Hole.Carrier.roll
in_assign_next x y = at_what (What-F.AssignNext x y)

pub in_get : (x y : List ℕ) → in_what (st.Get x y) ≡ x ∷ y ∷ []
unfolding roll-What denote.Hole.Carrier.roll
in_get x y = at_what (What-F.Get x y)

pub in_put : (x : List ℕ) (a : Expr) → in_what (st.Put x a) ≡ x ∷ in_expr a
unfolding roll-What denote.Hole.Carrier.roll
in_put x a = at_what (What-F.Put x a)

pub in_if : (a : Expr) (first other : List Stmt) → in_what (st.If a first other) ≡ in_expr a ++ (in_stmts first ++ in_stmts other)
unfolding roll-What denote.Hole.Carrier.roll
in_if a first other = at_what (What-F.If a first other)

pub in_while : (a : Expr) (body : List Stmt) → in_what (st.While a body) ≡ in_expr a ++ in_stmts body
unfolding roll-What denote.Hole.Carrier.roll
in_while a body = at_what (What-F.While a body)

pub in_for : (first : List Stmt) (test : Option Expr) (step body : List Stmt) → in_what (st.For first test step body) ≡ in_stmts first ++ (in_option test ++ (in_stmts step ++ in_stmts body))
unfolding roll-What denote.Hole.Carrier.roll
in_for first test step body = at_what (What-F.For first test step body)

pub in_block : (body : List Stmt) → in_what (st.Block body) ≡ in_stmts body
unfolding roll-What denote.Hole.Carrier.roll
in_block body = at_what (What-F.What::Block body)

pub in_called : (c : Call) → in_what (st.Call c) ≡ in_call c
unfolding roll-What denote.Hole.Carrier.roll
in_called c = at_what (What-F.What::Call c)

pub in_try : (body : List Stmt) (x : List ℕ) (y : Option (List ℕ)) (handler : List Stmt) → in_what (st.Try body x y handler) ≡ in_stmts body ++ x ∷ (occurs.in_variable y ++ in_stmts handler)
unfolding roll-What denote.Hole.Carrier.roll
in_try body x y handler = at_what (What-F.Try body x y handler)

pub in_throw : (x : List ℕ) (a : Option Expr) → in_what (st.Throw x a) ≡ x ∷ in_option a
unfolding roll-What denote.Hole.Carrier.roll
in_throw x a = at_what (What-F.Throw x a)

pub in_par : (branches : List Branch) → in_what (st.Par branches) ≡ in_branches branches
unfolding roll-What denote.Hole.Carrier.roll
in_par branches = at_what (What-F.Par branches)

pub in_block_branch : (line : ℕ) (body : List Stmt) → in_branch (record { line = line; what = br.Block body }) ≡ in_stmts body
unfolding roll-BranchWhat denote.Hole.Carrier.roll
in_block_branch line body = of_branch (record { line = line; what = br.Block body }) ∙ at_branch (BranchWhat-F.BranchWhat::Block body)

pub in_call_branch : (line : ℕ) (c : Call) → in_branch (record { line = line; what = br.Call c }) ≡ in_call c
unfolding roll-BranchWhat denote.Hole.Carrier.roll
in_call_branch line c = of_branch (record { line = line; what = br.Call c }) ∙ at_branch (BranchWhat-F.BranchWhat::Call c)
