-- How large a program is. A function, a parameter, a name of a `throws`, a block branch, a number, an operator and a variable in an expression count one each. A statement counts one, and so does a branch that is a call; its first name outside expressions is included. Each further name outside expressions counts one.
use Rattle.std.specs.Prelude.{ℕ, suc, ◌+◌, List, [], ◌∷◌, Option, Some, None, map, length}
use Rattle.shim_syntax.specs.declared.tree.Expr.{Expr, fold-Expr, Expr-F}
use Rattle.shim_syntax.specs.declared.tree.Call.{Call as CallOf}
use Rattle.shim_syntax.specs.declared.tree.Function.{Function}
use Rattle.shim_syntax.specs.declared.tree.Stmt.{Stmt, fold-Stmt}
use Rattle.shim_syntax.specs.declared.tree.What.{What, What-F, fold-What}
use Rattle.shim_syntax.specs.declared.tree.Branch.{Branch as BranchOf, fold-Branch}
use Rattle.shim_syntax.specs.declared.tree.BranchWhat.{BranchWhat-F}

abbrev pub sum_of : List ℕ → ℕ
sum_of [] = 0
sum_of (n ∷ ns) = n + sum_of ns

-- The size of an expression, given those of its operands. A number, a variable and an operator count one each.
abbrev pub expr_counts : Expr-F ℕ → ℕ
expr_counts (Expr-F.Number n) = 1
expr_counts (Expr-F.Var x) = 1
expr_counts (Expr-F.Unary op a) = suc a
expr_counts (Expr-F.Binary op a b) = suc (a + b)

-- The size of an expression. The sum of the sizes of expressions, and the size of an optional one: `exprs_size`, `option_size`.
unfoldable pub expr_size : Expr → ℕ
expr_size = fold-Expr ℕ expr_counts

abbrev pub exprs_size : List Expr → ℕ
exprs_size es = sum_of (map expr_size es)

abbrev pub option_size : Option Expr → ℕ
option_size None = 0
option_size (Some e) = expr_size e

-- the variable of a handler, where it has one
abbrev pub variable_size : Option (List ℕ) → ℕ
variable_size None = 0
variable_size (Some x) = 1

-- one for the called name, and the sizes of the arguments
abbrev pub call_size : CallOf → ℕ
call_size c = suc (exprs_size c.args)

-- The size of a branch, given those of the statements of its block. A block counts one itself.
abbrev pub branch_counts : BranchWhat-F ℕ ℕ ℕ ℕ → ℕ
branch_counts (BranchWhat-F.BranchWhat::Block body) = suc (sum_of body)
branch_counts (BranchWhat-F.BranchWhat::Call c) = call_size c

-- The size of a statement, given those of the statements and branches inside it. A statement counts one. The second name of an `AssignNext` or a `Get` counts one more, and a handler's variable, too.
abbrev pub what_counts : What-F ℕ ℕ ℕ ℕ → ℕ
what_counts (What-F.Declare ty x e) = suc (option_size e)
what_counts (What-F.Assign x e) = suc (expr_size e)
what_counts (What-F.Next x) = 1
what_counts (What-F.NextAssign x e) = suc (expr_size e)
what_counts (What-F.AssignNext x y) = 2
what_counts (What-F.Get x y) = 2
what_counts (What-F.Put x e) = suc (expr_size e)
what_counts (What-F.If e first other) = suc (expr_size e + (sum_of first + sum_of other))
what_counts (What-F.While e body) = suc (expr_size e + sum_of body)
what_counts (What-F.For first test step body) = suc (sum_of first + (option_size test + (sum_of step + sum_of body)))
what_counts (What-F.What::Block body) = suc (sum_of body)
what_counts (What-F.What::Call c) = call_size c
what_counts (What-F.Try body x y handler) = suc (sum_of body + (variable_size y + sum_of handler))
what_counts (What-F.Throw x e) = suc (option_size e)
what_counts (What-F.Par branches) = suc (sum_of branches)

-- The size of what a statement does, with all inside it. The same of a statement and of a branch: `stmt_size`, `branch_size`.
unfoldable pub what_size : What → ℕ
what_size = fold-What ℕ ℕ ℕ ℕ branch_counts what_counts (λ b. b.what) (λ s. s.what)

unfoldable pub stmt_size : Stmt → ℕ
stmt_size = fold-Stmt ℕ ℕ ℕ ℕ branch_counts what_counts (λ b. b.what) (λ s. s.what)

unfoldable pub branch_size : BranchOf → ℕ
branch_size = fold-Branch ℕ ℕ ℕ ℕ branch_counts what_counts (λ b. b.what) (λ s. s.what)

abbrev pub stmts_size : List Stmt → ℕ
stmts_size body = sum_of (map stmt_size body)

abbrev pub branches_size : List BranchOf → ℕ
branches_size branches = sum_of (map branch_size branches)

-- one for the function, one for each parameter and each exception that it throws, and the sizes of its statements
abbrev pub function_size : Function → ℕ
function_size f = suc (length f.params + (length f.throws + stmts_size f.body))

abbrev pub functions_size : List Function → ℕ
functions_size fs = sum_of (map function_size fs)
