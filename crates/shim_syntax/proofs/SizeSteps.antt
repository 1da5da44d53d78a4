-- The size of each kind of expression, statement and branch by those of its parts.
use Rattle.std.proofs.Common.{ℕ, ℤ, suc, ◌+◌, ◌≡◌, ◌∙◌, List, Option}
use Rattle.shim_base.specs.declared.types.Ty.{Ty}
use Rattle.shim_base.specs.declared.operators.BinOp.{BinOp}
use Rattle.shim_base.specs.declared.operators.UnOp.{UnOp}
use Rattle.shim_syntax.specs.declared.tree.Expr.{Expr, Expr-F, roll-Expr, fold-roll-Expr}
use Rattle.shim_syntax.specs.declared.tree.Expr.TheVariants as e
use Rattle.shim_syntax.specs.declared.tree.Call.{Call}
use Rattle.shim_syntax.specs.declared.tree.Stmt.{Stmt, fold-roll-Stmt}
use Rattle.shim_syntax.specs.declared.tree.What.{What, What-F, roll-What, fold-roll-What, map-What}
use Rattle.shim_syntax.specs.declared.tree.What.TheVariants as st
use Rattle.shim_syntax.specs.declared.tree.Branch.{Branch, fold-roll-Branch}
use Rattle.shim_syntax.specs.declared.tree.BranchWhat.{BranchWhat, BranchWhat-F, roll-BranchWhat, fold-BranchWhat, fold-roll-BranchWhat, map-BranchWhat}
use Rattle.shim_syntax.specs.declared.tree.BranchWhat.TheVariants as br
use Rattle.shim_syntax.specs.Sizes.{expr_counts, expr_size, option_size, variable_size, call_size, branch_counts, what_counts, what_size, stmt_size, branch_size, stmts_size, branches_size}

pub number_size : (n : ℤ) → expr_size (e.Number n) ≡ 1
unfolding expr_size roll-Expr denote.Hole.Carrier.roll
number_size n = fold-roll-Expr ℕ expr_counts (Expr-F.Number n)

pub var_size : (x : List ℕ) → expr_size (e.Var x) ≡ 1
unfolding expr_size roll-Expr denote.Hole.Carrier.roll
var_size x = fold-roll-Expr ℕ expr_counts (Expr-F.Var x)

pub unary_size : (op : UnOp) (a : Expr) → expr_size (e.Unary op a) ≡ suc (expr_size a)
unfolding expr_size roll-Expr denote.Hole.Carrier.roll
unary_size op a = fold-roll-Expr ℕ expr_counts (Expr-F.Unary op a)

pub binary_size : (op : BinOp) (a b : Expr) → expr_size (e.Binary op a b) ≡ suc (expr_size a + expr_size b)
unfolding expr_size roll-Expr denote.Hole.Carrier.roll
binary_size op a b = fold-roll-Expr ℕ expr_counts (Expr-F.Binary op a b)

-- a statement is as large as what it does
pub of_stmt : (s : Stmt) → stmt_size s ≡ what_size s.what
unfolding stmt_size what_size
of_stmt s = fold-roll-Stmt ℕ ℕ ℕ ℕ branch_counts what_counts (λ b. b.what) (λ s. s.what) (record { line = s.line; what = s.what })

pub branch_what_size : BranchWhat → ℕ
branch_what_size = fold-BranchWhat ℕ ℕ ℕ ℕ branch_counts what_counts (λ b. b.what) (λ s. s.what)

pub at_what : (y : What-F BranchWhat What Branch Stmt)
    → what_size (roll-What y) ≡ what_counts (map-What BranchWhat What Branch Stmt ℕ ℕ ℕ ℕ branch_what_size what_size branch_size stmt_size y)
unfolding branch_what_size what_size branch_size stmt_size
at_what y = fold-roll-What ℕ ℕ ℕ ℕ branch_counts what_counts (λ b. b.what) (λ s. s.what) y

pub declare_size : (ty : Ty) (x : List ℕ) (value : Option Expr) → what_size (st.Declare ty x value) ≡ suc (option_size value)
unfolding roll-What denote.Hole.Carrier.roll
declare_size ty x value = at_what (What-F.Declare ty x value)

pub assign_size : (x : List ℕ) (a : Expr) → what_size (st.Assign x a) ≡ suc (expr_size a)
unfolding roll-What denote.Hole.Carrier.roll
assign_size x a = at_what (What-F.Assign x a)

pub next_size : (x : List ℕ) → what_size (st.Next x) ≡ 1
unfolding roll-What denote.Hole.Carrier.roll
next_size x = at_what (What-F.Next x)

pub next_assign_size : (x : List ℕ) (a : Expr) → what_size (st.NextAssign x a) ≡ suc (expr_size a)
unfolding roll-What denote.Hole.Carrier.roll
next_assign_size x a = at_what (What-F.NextAssign x a)

pub assign_next_size : (x y : List ℕ) → what_size (st.AssignNext x y) ≡ 2
unfolding roll-What denote.Hole.Carrier.roll
assign_next_size x y = at_what (What-F.AssignNext x y)

pub get_size : (x y : List ℕ) → what_size (st.Get x y) ≡ 2
unfolding roll-What denote.Hole.Carrier.roll
get_size x y = at_what (What-F.Get x y)

pub put_size : (x : List ℕ) (a : Expr) → what_size (st.Put x a) ≡ suc (expr_size a)
unfolding roll-What denote.Hole.Carrier.roll
put_size x a = at_what (What-F.Put x a)

pub if_size : (a : Expr) (first other : List Stmt) → what_size (st.If a first other) ≡ suc (expr_size a + (stmts_size first + stmts_size other))
unfolding roll-What denote.Hole.Carrier.roll
if_size a first other = at_what (What-F.If a first other)

pub while_size : (a : Expr) (body : List Stmt) → what_size (st.While a body) ≡ suc (expr_size a + stmts_size body)
unfolding roll-What denote.Hole.Carrier.roll
while_size a body = at_what (What-F.While a body)

pub for_size : (first : List Stmt) (test : Option Expr) (step body : List Stmt)
    → what_size (st.For first test step body) ≡ suc (stmts_size first + (option_size test + (stmts_size step + stmts_size body)))
unfolding roll-What denote.Hole.Carrier.roll
for_size first test step body = at_what (What-F.For first test step body)

pub block_size : (body : List Stmt) → what_size (st.Block body) ≡ suc (stmts_size body)
unfolding roll-What denote.Hole.Carrier.roll
block_size body = at_what (What-F.What::Block body)

pub called_size : (c : Call) → what_size (st.Call c) ≡ call_size c
unfolding roll-What denote.Hole.Carrier.roll
called_size c = at_what (What-F.What::Call c)

pub try_size : (body : List Stmt) (x : List ℕ) (y : Option (List ℕ)) (handler : List Stmt) → what_size (st.Try body x y handler) ≡ suc (stmts_size body + (variable_size y + stmts_size handler))
unfolding roll-What denote.Hole.Carrier.roll
try_size body x y handler = at_what (What-F.Try body x y handler)

pub throw_size : (x : List ℕ) (a : Option Expr) → what_size (st.Throw x a) ≡ suc (option_size a)
unfolding roll-What denote.Hole.Carrier.roll
throw_size x a = at_what (What-F.Throw x a)

pub par_size : (branches : List Branch) → what_size (st.Par branches) ≡ suc (branches_size branches)
unfolding roll-What denote.Hole.Carrier.roll
par_size branches = at_what (What-F.Par branches)

pub of_branch : (b : Branch) → branch_size b ≡ branch_what_size b.what
unfolding branch_size branch_what_size
of_branch b = fold-roll-Branch ℕ ℕ ℕ ℕ branch_counts what_counts (λ b. b.what) (λ s. s.what) (record { line = b.line; what = b.what })

pub at_branch : (y : BranchWhat-F BranchWhat What Branch Stmt)
    → branch_what_size (roll-BranchWhat y) ≡ branch_counts (map-BranchWhat BranchWhat What Branch Stmt ℕ ℕ ℕ ℕ branch_what_size what_size branch_size stmt_size y)
unfolding branch_what_size what_size branch_size stmt_size
at_branch y = fold-roll-BranchWhat ℕ ℕ ℕ ℕ branch_counts what_counts (λ b. b.what) (λ s. s.what) y

pub block_branch_size : (line : ℕ) (body : List Stmt) → branch_size (record { line = line; what = br.Block body }) ≡ suc (stmts_size body)
unfolding roll-BranchWhat denote.Hole.Carrier.roll
block_branch_size line body = of_branch (record { line = line; what = br.Block body }) ∙ at_branch (BranchWhat-F.BranchWhat::Block body)

pub call_branch_size : (line : ℕ) (c : Call) → branch_size (record { line = line; what = br.Call c }) ≡ call_size c
unfolding roll-BranchWhat denote.Hole.Carrier.roll
call_branch_size line c = of_branch (record { line = line; what = br.Call c }) ∙ at_branch (BranchWhat-F.BranchWhat::Call c)
