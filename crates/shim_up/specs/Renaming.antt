-- A program with its identifiers replaced.
use Rattle.std.specs.Prelude.{ℕ, List, Option, Some, None, map}
use Rattle.shim_syntax.specs.declared.tree.Expr.{Expr, fold-Expr, Expr-F}
use Rattle.shim_syntax.specs.declared.tree.Expr.TheVariants as e
use Rattle.shim_syntax.specs.declared.tree.Call.{Call}
use Rattle.shim_syntax.specs.declared.tree.Param.{Param}
use Rattle.shim_syntax.specs.declared.tree.Function.{Function}
use Rattle.shim_syntax.specs.declared.tree.Program.{Program}
use Rattle.shim_syntax.specs.declared.tree.Stmt.{Stmt, fold-Stmt, Stmt-F}
use Rattle.shim_syntax.specs.declared.tree.What.{What, fold-What, What-F}
use Rattle.shim_syntax.specs.declared.tree.What.TheVariants as st
use Rattle.shim_syntax.specs.declared.tree.Branch.{Branch, fold-Branch, Branch-F}
use Rattle.shim_syntax.specs.declared.tree.BranchWhat.{BranchWhat, fold-BranchWhat, BranchWhat-F}
use Rattle.shim_syntax.specs.declared.tree.BranchWhat.TheVariants as br

-- what stands in place of each identifier
abbrev pub Renaming : Type 0
Renaming = List ℕ → List ℕ

-- the expression of renamed parts, with a variable of its own renamed
abbrev pub rename_expr_step : Renaming → Expr-F Expr → Expr
rename_expr_step f (Expr-F.Number n) = e.Number n
rename_expr_step f (Expr-F.Var x) = e.Var (f x)
rename_expr_step f (Expr-F.Unary op a) = e.Unary op a
rename_expr_step f (Expr-F.Binary op a b) = e.Binary op a b

unfoldable pub renamed_expr : Renaming → Expr → Expr
renamed_expr f = fold-Expr Expr (rename_expr_step f)

abbrev pub renamed_option : Renaming → Option Expr → Option Expr
renamed_option f None = None
renamed_option f (Some a) = Some (renamed_expr f a)

-- the variable of a handler, where it has one
abbrev pub renamed_variable : Renaming → Option (List ℕ) → Option (List ℕ)
renamed_variable f None = None
renamed_variable f (Some x) = Some (f x)

abbrev pub renamed_call : Renaming → Call → Call
renamed_call f c = record { function = f c.function; args = map (renamed_expr f) c.args }

-- what a branch does, of renamed parts: a call of its own is renamed
abbrev pub rename_branch_what_step : Renaming → BranchWhat-F BranchWhat What Branch Stmt → BranchWhat
rename_branch_what_step f (BranchWhat-F.BranchWhat::Block body) = br.Block body
rename_branch_what_step f (BranchWhat-F.BranchWhat::Call c) = br.Call (renamed_call f c)

-- what a statement does, of renamed parts: identifiers, expressions and a call of its own are renamed
abbrev pub rename_what_step : Renaming → What-F BranchWhat What Branch Stmt → What
rename_what_step f (What-F.Declare ty x a) = st.Declare ty (f x) (renamed_option f a)
rename_what_step f (What-F.Assign x a) = st.Assign (f x) (renamed_expr f a)
rename_what_step f (What-F.Next x) = st.Next (f x)
rename_what_step f (What-F.NextAssign x a) = st.NextAssign (f x) (renamed_expr f a)
rename_what_step f (What-F.AssignNext x y) = st.AssignNext (f x) (f y)
rename_what_step f (What-F.Get x y) = st.Get (f x) (f y)
rename_what_step f (What-F.Put x a) = st.Put (f x) (renamed_expr f a)
rename_what_step f (What-F.If test first other) = st.If (renamed_expr f test) first other
rename_what_step f (What-F.While test body) = st.While (renamed_expr f test) body
rename_what_step f (What-F.For first test step body) = st.For first (renamed_option f test) step body
rename_what_step f (What-F.What::Block body) = st.Block body
rename_what_step f (What-F.What::Call c) = st.Call (renamed_call f c)
rename_what_step f (What-F.Try body x y handler) = st.Try body (f x) (renamed_variable f y) handler
rename_what_step f (What-F.Throw x a) = st.Throw (f x) (renamed_option f a)
rename_what_step f (What-F.Par branches) = st.Par branches

-- the branch of renamed parts, which has no identifier of its own
abbrev pub rename_branch_step : Branch-F BranchWhat What Branch Stmt → Branch
rename_branch_step b = record { line = b.line; what = b.what }

-- the statement of renamed parts, which has no identifier of its own
abbrev pub rename_stmt_step : Stmt-F BranchWhat What Branch Stmt → Stmt
rename_stmt_step s = record { line = s.line; what = s.what }

abbrev pub renamed_stmt : Renaming → Stmt → Stmt
renamed_stmt f = fold-Stmt BranchWhat What Branch Stmt (rename_branch_what_step f) (rename_what_step f) rename_branch_step rename_stmt_step

abbrev pub renamed_what : Renaming → What → What
renamed_what f = fold-What BranchWhat What Branch Stmt (rename_branch_what_step f) (rename_what_step f) rename_branch_step rename_stmt_step

abbrev pub renamed_branch : Renaming → Branch → Branch
renamed_branch f = fold-Branch BranchWhat What Branch Stmt (rename_branch_what_step f) (rename_what_step f) rename_branch_step rename_stmt_step

abbrev pub renamed_branch_what : Renaming → BranchWhat → BranchWhat
renamed_branch_what f = fold-BranchWhat BranchWhat What Branch Stmt (rename_branch_what_step f) (rename_what_step f) rename_branch_step rename_stmt_step

abbrev pub renamed_param : Renaming → Param → Param
renamed_param f p = record { sort = p.sort; by_ref = p.by_ref; name = f p.name }

abbrev pub renamed_function : Renaming → Function → Function
renamed_function f g = record {
  line = g.line;
  name = f g.name;
  params = map (renamed_param f) g.params;
  throws = map f g.throws;
  body = map (renamed_stmt f) g.body;
}

abbrev pub renamed_functions : Renaming → List Function → List Function
renamed_functions f fs = map (renamed_function f) fs

-- the program with each identifier replaced, those of functions and exceptions, too
abbrev pub renamed : Renaming → Program → Program
renamed f p = record { version = p.version; functions = renamed_functions f p.functions }
