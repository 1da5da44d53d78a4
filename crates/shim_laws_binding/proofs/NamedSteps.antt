-- The names put back in each kind of expression, statement and branch, by those of its parts.
use Rattle.std.proofs.Common.{ℕ, ℤ, ◌≡◌, List, Option, map}
use Rattle.shim_base.specs.declared.types.Ty.{Ty}
use Rattle.shim_base.specs.declared.operators.BinOp.{BinOp}
use Rattle.shim_base.specs.declared.operators.UnOp.{UnOp}
use Rattle.shim_syntax.specs.declared.tree.Expr.{Expr}
use Rattle.shim_syntax.specs.declared.tree.Expr.TheVariants as e
use Rattle.shim_syntax.specs.declared.tree.Stmt.{Stmt}
use Rattle.shim_syntax.specs.declared.tree.What.{What}
use Rattle.shim_syntax.specs.declared.tree.What.TheVariants as st
use Rattle.shim_syntax.specs.declared.tree.Branch.{Branch}
use Rattle.shim_syntax.specs.declared.tree.BranchWhat.{BranchWhat}
use Rattle.shim_syntax.specs.declared.tree.BranchWhat.TheVariants as br
use Rattle.shim_scopes.specs.declared.tree.UExpr.{UExpr, UExpr-F, roll-UExpr, fold-roll-UExpr}
use Rattle.shim_scopes.specs.declared.tree.UExpr.TheVariants as u
use Rattle.shim_scopes.specs.declared.tree.RCall.{RCall}
use Rattle.shim_scopes.specs.declared.tree.RStmt.{RStmt, fold-roll-RStmt}
use Rattle.shim_scopes.specs.declared.tree.RWhat.{RWhat, RWhat-F, fold-RWhat, fold-roll-RWhat, map-RWhat, roll-RWhat}
use Rattle.shim_scopes.specs.declared.tree.RWhat.TheVariants as r
use Rattle.shim_scopes.specs.declared.tree.RBranch.{RBranch, fold-RBranch, fold-roll-RBranch}
use Rattle.shim_scopes.specs.declared.tree.RBranchWhat.{RBranchWhat, RBranchWhat-F, fold-RBranchWhat, fold-roll-RBranchWhat, map-RBranchWhat, roll-RBranchWhat}
use Rattle.shim_scopes.specs.declared.tree.RBranchWhat.TheVariants as rb
use Rattle.shim_laws_binding.specs.Naming.{Naming, name_expr_step, expr_named, option_named, slot_named, call_named, name_branch_what_step, name_what_step, name_branch_step, name_stmt_step, stmt_named}

pub named_number : (v : ℕ → List ℕ) (n : ℤ) → expr_named v (u.Number n) ≡ e.Number n
unfolding expr_named roll-UExpr denote.Hole.Carrier.roll
named_number v n = fold-roll-UExpr Expr (name_expr_step v) (UExpr-F.Number n)

pub named_variable : (v : ℕ → List ℕ) (slot : ℕ) → expr_named v (u.Var slot) ≡ e.Var (v slot)
unfolding expr_named roll-UExpr denote.Hole.Carrier.roll
named_variable v slot = fold-roll-UExpr Expr (name_expr_step v) (UExpr-F.Var slot)

pub named_unary : (v : ℕ → List ℕ) (op : UnOp) (a : UExpr) → expr_named v (u.Unary op a) ≡ e.Unary op (expr_named v a)
unfolding expr_named roll-UExpr denote.Hole.Carrier.roll
named_unary v op a = fold-roll-UExpr Expr (name_expr_step v) (UExpr-F.Unary op a)

pub named_binary : (v : ℕ → List ℕ) (op : BinOp) (a b : UExpr) → expr_named v (u.Binary op a b) ≡ e.Binary op (expr_named v a) (expr_named v b)
unfolding expr_named roll-UExpr denote.Hole.Carrier.roll
named_binary v op a b = fold-roll-UExpr Expr (name_expr_step v) (UExpr-F.Binary op a b)

module _ (n : Naming) where
  abbrev pub branch_what_named : RBranchWhat → BranchWhat
  branch_what_named = fold-RBranchWhat BranchWhat What Branch Stmt (name_branch_what_step n) (name_what_step n) name_branch_step name_stmt_step

  abbrev pub what_named : RWhat → What
  what_named = fold-RWhat BranchWhat What Branch Stmt (name_branch_what_step n) (name_what_step n) name_branch_step name_stmt_step

  abbrev pub branch_named : RBranch → Branch
  branch_named = fold-RBranch BranchWhat What Branch Stmt (name_branch_what_step n) (name_what_step n) name_branch_step name_stmt_step

  abbrev pub stmts_named : List RStmt → List Stmt
  stmts_named body = map (stmt_named n) body

  abbrev pub branches_named : List RBranch → List Branch
  branches_named branches = map branch_named branches

  pub named_stmt : (line : ℕ) (t : RWhat) → stmt_named n (record { line = line; what = t }) ≡ record { line = line; what = what_named t }
  named_stmt line t = fold-roll-RStmt BranchWhat What Branch Stmt (name_branch_what_step n) (name_what_step n) name_branch_step name_stmt_step (record { line = line; what = t })

  pub named_branch : (line : ℕ) (t : RBranchWhat) → branch_named (record { line = line; what = t }) ≡ record { line = line; what = branch_what_named t }
  named_branch line t = fold-roll-RBranch BranchWhat What Branch Stmt (name_branch_what_step n) (name_what_step n) name_branch_step name_stmt_step (record { line = line; what = t })

  abbrev mapped : RWhat-F RBranchWhat RWhat RBranch RStmt → What
  mapped y = name_what_step n (map-RWhat RBranchWhat RWhat RBranch RStmt BranchWhat What Branch Stmt branch_what_named what_named branch_named (stmt_named n) y)

  at_what : (y : RWhat-F RBranchWhat RWhat RBranch RStmt) → what_named (roll-RWhat y) ≡ mapped y
  at_what y = fold-roll-RWhat BranchWhat What Branch Stmt (name_branch_what_step n) (name_what_step n) name_branch_step name_stmt_step y

  pub named_declare : (ty : Ty) (slot : ℕ) (a : Option UExpr) → what_named (r.Declare ty slot a) ≡ st.Declare ty (n.variable slot) (option_named n.variable a)
  unfolding roll-RWhat denote.Hole.Carrier.roll
  named_declare ty slot a = at_what (RWhat-F.Declare ty slot a)

  pub named_assign : (slot : ℕ) (a : UExpr) → what_named (r.Assign slot a) ≡ st.Assign (n.variable slot) (expr_named n.variable a)
  unfolding roll-RWhat denote.Hole.Carrier.roll
  named_assign slot a = at_what (RWhat-F.Assign slot a)

  pub named_next : (slot : ℕ) → what_named (r.Next slot) ≡ st.Next (n.variable slot)
  unfolding roll-RWhat denote.Hole.Carrier.roll
  named_next slot = at_what (RWhat-F.Next slot)

  pub named_next_assign : (slot : ℕ) (a : UExpr) → what_named (r.NextAssign slot a) ≡ st.NextAssign (n.variable slot) (expr_named n.variable a)
  unfolding roll-RWhat denote.Hole.Carrier.roll
  named_next_assign slot a = at_what (RWhat-F.NextAssign slot a)

  pub named_assign_next : (slot other : ℕ) → what_named (r.AssignNext slot other) ≡ st.AssignNext (n.variable slot) (n.variable other)
  unfolding roll-RWhat denote.Hole.Carrier.roll
  named_assign_next slot other = at_what (RWhat-F.AssignNext slot other)

  pub named_get : (slot stream : ℕ) → what_named (r.Get slot stream) ≡ st.Get (n.variable slot) (n.variable stream)
  unfolding roll-RWhat denote.Hole.Carrier.roll
  named_get slot stream = at_what (RWhat-F.Get slot stream)

  pub named_put : (stream : ℕ) (a : UExpr) → what_named (r.Put stream a) ≡ st.Put (n.variable stream) (expr_named n.variable a)
  unfolding roll-RWhat denote.Hole.Carrier.roll
  named_put stream a = at_what (RWhat-F.Put stream a)

  pub named_if : (test : UExpr) (first other : List RStmt) → what_named (r.If test first other) ≡ st.If (expr_named n.variable test) (stmts_named first) (stmts_named other)
  unfolding roll-RWhat denote.Hole.Carrier.roll
  named_if test first other = at_what (RWhat-F.If test first other)

  pub named_while : (test : UExpr) (body : List RStmt) → what_named (r.While test body) ≡ st.While (expr_named n.variable test) (stmts_named body)
  unfolding roll-RWhat denote.Hole.Carrier.roll
  named_while test body = at_what (RWhat-F.While test body)

  pub named_for : (first : List RStmt) (test : Option UExpr) (step body : List RStmt)
      → what_named (r.For first test step body) ≡ st.For (stmts_named first) (option_named n.variable test) (stmts_named step) (stmts_named body)
  unfolding roll-RWhat denote.Hole.Carrier.roll
  named_for first test step body = at_what (RWhat-F.For first test step body)

  pub named_block : (body : List RStmt) → what_named (r.Block body) ≡ st.Block (stmts_named body)
  unfolding roll-RWhat denote.Hole.Carrier.roll
  named_block body = at_what (RWhat-F.RWhat::Block body)

  pub named_call : (c : RCall) → what_named (r.Call c) ≡ st.Call (call_named n c)
  unfolding roll-RWhat denote.Hole.Carrier.roll
  named_call c = at_what (RWhat-F.RWhat::Call c)

  pub named_try : (body : List RStmt) (number : ℕ) (slot : Option ℕ) (handler : List RStmt)
      → what_named (r.Try body number slot handler) ≡ st.Try (stmts_named body) (n.exception number) (slot_named n.variable slot) (stmts_named handler)
  unfolding roll-RWhat denote.Hole.Carrier.roll
  named_try body number slot handler = at_what (RWhat-F.Try body number slot handler)

  pub named_throw : (number : ℕ) (a : Option UExpr) → what_named (r.Throw number a) ≡ st.Throw (n.exception number) (option_named n.variable a)
  unfolding roll-RWhat denote.Hole.Carrier.roll
  named_throw number a = at_what (RWhat-F.Throw number a)

  pub named_par : (branches : List RBranch) → what_named (r.Par branches) ≡ st.Par (branches_named branches)
  unfolding roll-RWhat denote.Hole.Carrier.roll
  named_par branches = at_what (RWhat-F.Par branches)

  at_branch : (y : RBranchWhat-F RBranchWhat RWhat RBranch RStmt)
      → branch_what_named (roll-RBranchWhat y) ≡ name_branch_what_step n (map-RBranchWhat RBranchWhat RWhat RBranch RStmt BranchWhat What Branch Stmt branch_what_named what_named branch_named (stmt_named n) y)
  at_branch y = fold-roll-RBranchWhat BranchWhat What Branch Stmt (name_branch_what_step n) (name_what_step n) name_branch_step name_stmt_step y

  pub named_block_branch : (body : List RStmt) → branch_what_named (rb.Block body) ≡ br.Block (stmts_named body)
  unfolding roll-RBranchWhat denote.Hole.Carrier.roll
  named_block_branch body = at_branch (RBranchWhat-F.RBranchWhat::Block body)

  pub named_call_branch : (c : RCall) → branch_what_named (rb.Call c) ≡ br.Call (call_named n c)
  unfolding roll-RBranchWhat denote.Hole.Carrier.roll
  named_call_branch c = at_branch (RBranchWhat-F.RBranchWhat::Call c)
