-- The functions that a resolved form stands for, with names in place of the form's numbers.
use Rattle.std.specs.Prelude.{ℕ, List, ◌++◌, Option, Some, None, map, slice_index_or, []}
use Rattle.shim_syntax.specs.declared.tree.Expr.{Expr}
use Rattle.shim_syntax.specs.declared.tree.Expr.TheVariants as e
use Rattle.shim_syntax.specs.declared.tree.Call.{Call}
use Rattle.shim_syntax.specs.declared.tree.Param.{Param}
use Rattle.shim_syntax.specs.declared.tree.Function.{Function}
use Rattle.shim_syntax.specs.declared.tree.Stmt.{Stmt}
use Rattle.shim_syntax.specs.declared.tree.What.{What}
use Rattle.shim_syntax.specs.declared.tree.What.TheVariants as st
use Rattle.shim_syntax.specs.declared.tree.Branch.{Branch}
use Rattle.shim_syntax.specs.declared.tree.BranchWhat.{BranchWhat}
use Rattle.shim_syntax.specs.declared.tree.BranchWhat.TheVariants as br
use Rattle.shim_scopes.specs.declared.form.Form.{Form}
use Rattle.shim_scopes.specs.declared.tree.RFunction.{RFunction}
use Rattle.shim_scopes.specs.declared.tree.UParam.{UParam}
use Rattle.shim_scopes.specs.declared.tree.UExpr.{UExpr, UExpr-F, fold-UExpr}
use Rattle.shim_scopes.specs.declared.tree.RCall.{RCall}
use Rattle.shim_scopes.specs.declared.tree.RStmt.{RStmt, RStmt-F, fold-RStmt}
use Rattle.shim_scopes.specs.declared.tree.RWhat.{RWhat-F}
use Rattle.shim_scopes.specs.declared.tree.RBranch.{RBranch-F}
use Rattle.shim_scopes.specs.declared.tree.RBranchWhat.{RBranchWhat-F}
use Rattle.shim_syntax.specs.Names.{Texts}

-- the name at a place of a list, or the empty name if the place isn't in the list
abbrev pub name_at : Texts → ℕ → List ℕ
name_at names place = slice_index_or names place []

-- the names at these places, one after another
abbrev pub names_at : Texts → List ℕ → Texts
names_at names places = map (name_at names) places

-- the names of the variables by their slots, and of the exceptions and the functions by their numbers
pub record Naming : Type 0 where
  pub variable : ℕ → List ℕ
  pub exception : ℕ → List ℕ
  pub function : ℕ → List ℕ

-- one expression with the name of its variable, its operands being named already
abbrev pub name_expr_step : (ℕ → List ℕ) → UExpr-F Expr → Expr
name_expr_step variable (UExpr-F.Number n) = e.Number n
name_expr_step variable (UExpr-F.Var slot) = e.Var (variable slot)
name_expr_step variable (UExpr-F.Unary op a) = e.Unary op a
name_expr_step variable (UExpr-F.Binary op a b) = e.Binary op a b

-- an expression with the names of its variables in place of their slots
unfoldable pub expr_named : (ℕ → List ℕ) → UExpr → Expr
expr_named variable = fold-UExpr Expr (name_expr_step variable)

-- the same of an expression that may be absent
abbrev pub option_named : (ℕ → List ℕ) → Option UExpr → Option Expr
option_named variable None = None
option_named variable (Some a) = Some (expr_named variable a)

-- the name of a handler's variable, where the handler has one
abbrev pub slot_named : (ℕ → List ℕ) → Option ℕ → Option (List ℕ)
slot_named variable None = None
slot_named variable (Some slot) = Some (variable slot)

-- a call with the names of its function and of its variables, without the exceptions that it gives
abbrev pub call_named : Naming → RCall → Call
call_named n c = record { function = n.function c.function; args = map (expr_named n.variable) c.args }

-- a branch with the names of its call, the statements of its block being named already
abbrev pub name_branch_what_step : Naming → RBranchWhat-F BranchWhat What Branch Stmt → BranchWhat
name_branch_what_step n (RBranchWhat-F.RBranchWhat::Block body) = br.Block body
name_branch_what_step n (RBranchWhat-F.RBranchWhat::Call c) = br.Call (call_named n c)

-- a statement with names in place of its slots and numbers, the statements inside it being named already
abbrev pub name_what_step : Naming → RWhat-F BranchWhat What Branch Stmt → What
name_what_step n (RWhat-F.Declare ty slot a) = st.Declare ty (n.variable slot) (option_named n.variable a)
name_what_step n (RWhat-F.Assign slot a) = st.Assign (n.variable slot) (expr_named n.variable a)
name_what_step n (RWhat-F.Next slot) = st.Next (n.variable slot)
name_what_step n (RWhat-F.NextAssign slot a) = st.NextAssign (n.variable slot) (expr_named n.variable a)
name_what_step n (RWhat-F.AssignNext slot other) = st.AssignNext (n.variable slot) (n.variable other)
name_what_step n (RWhat-F.Get slot stream) = st.Get (n.variable slot) (n.variable stream)
name_what_step n (RWhat-F.Put stream a) = st.Put (n.variable stream) (expr_named n.variable a)
name_what_step n (RWhat-F.If test first other) = st.If (expr_named n.variable test) first other
name_what_step n (RWhat-F.While test body) = st.While (expr_named n.variable test) body
name_what_step n (RWhat-F.For first test step body) = st.For first (option_named n.variable test) step body
name_what_step n (RWhat-F.RWhat::Block body) = st.Block body
name_what_step n (RWhat-F.RWhat::Call c) = st.Call (call_named n c)
name_what_step n (RWhat-F.Try body number slot handler) = st.Try body (n.exception number) (slot_named n.variable slot) handler
name_what_step n (RWhat-F.Throw number a) = st.Throw (n.exception number) (option_named n.variable a)
name_what_step n (RWhat-F.Par branches) = st.Par branches

-- A branch with its line, what it does being named already. `name_stmt_step` is the same of a statement.
abbrev pub name_branch_step : RBranch-F BranchWhat What Branch Stmt → Branch
name_branch_step b = record { line = b.line; what = b.what }

abbrev pub name_stmt_step : RStmt-F BranchWhat What Branch Stmt → Stmt
name_stmt_step s = record { line = s.line; what = s.what }

-- a statement with names in place of all slots and numbers in it
abbrev pub stmt_named : Naming → RStmt → Stmt
stmt_named n = fold-RStmt BranchWhat What Branch Stmt (name_branch_what_step n) (name_what_step n) name_branch_step name_stmt_step

-- a parameter with its name in place of the number of the name
abbrev pub param_named : Texts → UParam → Param
param_named names p = record { sort = p.sort; by_ref = p.by_ref; name = name_at names p.name }

-- The names for one function of a form: of its variables by its slots, of its exceptions, and of all functions of the form. The exceptions are those of its `throws`, and then those of its `try` statements.
abbrev pub naming_of : Form → RFunction → Naming
naming_of form f = record {
  variable = name_at (names_at form.names f.slot_names);
  exception = name_at (names_at form.names (f.throws ++ f.tries));
  function = name_at (names_at form.names (map (λ (f : RFunction). f.name) form.functions));
}

-- a function with names in place of all slots and numbers in it
abbrev pub function_named : Form → RFunction → Function
function_named form f = record {
  line = f.line;
  name = name_at form.names f.name;
  params = map (param_named form.names) f.params;
  throws = names_at form.names f.throws;
  body = map (stmt_named (naming_of form f)) f.body;
}

-- the functions of a form, each with names in place of all slots and numbers in it
abbrev pub functions_named : Form → List Function
functions_named form = map (function_named form) form.functions
