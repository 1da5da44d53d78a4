-- The extent of each kind of bound statement and branch by those of its parts, and the size of each kind of expression.
use Rattle.std.proofs.Common.{ℕ, ℤ, suc, ◌+◌, ◌≡◌, List, Option}
use Rattle.shim_base.specs.declared.types.Ty.{Ty}
use Rattle.shim_base.specs.declared.operators.BinOp.{BinOp}
use Rattle.shim_base.specs.declared.operators.UnOp.{UnOp}
use Rattle.shim_scopes.specs.declared.tree.UExpr.{UExpr, UExpr-F, roll-UExpr, fold-roll-UExpr}
use Rattle.shim_scopes.specs.declared.tree.UExpr.TheVariants as u
use Rattle.shim_scopes.specs.declared.tree.RCall.{RCall}
use Rattle.shim_scopes.specs.declared.tree.RStmt.{RStmt, fold-roll-RStmt}
use Rattle.shim_scopes.specs.declared.tree.RWhat.{RWhat, RWhat-F, fold-roll-RWhat, map-RWhat, roll-RWhat}
use Rattle.shim_scopes.specs.declared.tree.RWhat.TheVariants as r
use Rattle.shim_scopes.specs.declared.tree.RBranch.{RBranch, fold-roll-RBranch}
use Rattle.shim_scopes.specs.declared.tree.RBranchWhat.{RBranchWhat, RBranchWhat-F, fold-roll-RBranchWhat, map-RBranchWhat, roll-RBranchWhat}
use Rattle.shim_scopes.specs.declared.tree.RBranchWhat.TheVariants as rb
use Rattle.shim_units.specs.Sizes.{Extent, plain, declaration, larger, sum_of_two, in_own_units, variable_extent, expr_counts, expr_size, option_size, call_size, branch_extents, what_extents, branch_what_extent, what_extent, branch_extent, stmt_extent, extent, fork_extent}

pub number_size : (n : ℤ) → expr_size (u.Number n) ≡ 1
unfolding expr_size roll-UExpr denote.Hole.Carrier.roll
number_size n = fold-roll-UExpr ℕ expr_counts (UExpr-F.Number n)

pub variable_size : (x : ℕ) → expr_size (u.Var x) ≡ 1
unfolding expr_size roll-UExpr denote.Hole.Carrier.roll
variable_size x = fold-roll-UExpr ℕ expr_counts (UExpr-F.Var x)

pub unary_size : (op : UnOp) (a : UExpr) → expr_size (u.Unary op a) ≡ suc (expr_size a)
unfolding expr_size roll-UExpr denote.Hole.Carrier.roll
unary_size op a = fold-roll-UExpr ℕ expr_counts (UExpr-F.Unary op a)

pub binary_size : (op : BinOp) (a b : UExpr) → expr_size (u.Binary op a b) ≡ suc (expr_size a + expr_size b)
unfolding expr_size roll-UExpr denote.Hole.Carrier.roll
binary_size op a b = fold-roll-UExpr ℕ expr_counts (UExpr-F.Binary op a b)

-- a statement is as large as what it does

pub of_stmt : (line : ℕ) (t : RWhat) → stmt_extent (record { line = line; what = t }) ≡ what_extent t
of_stmt line t = fold-roll-RStmt Extent Extent Extent Extent branch_extents what_extents (λ b. b.what) (λ s. s.what) (record { line = line; what = t })

pub of_branch : (line : ℕ) (t : RBranchWhat) → branch_extent (record { line = line; what = t }) ≡ branch_what_extent t
of_branch line t = fold-roll-RBranch Extent Extent Extent Extent branch_extents what_extents (λ b. b.what) (λ s. s.what) (record { line = line; what = t })

pub at_what : (y : RWhat-F RBranchWhat RWhat RBranch RStmt)
    → what_extent (roll-RWhat y) ≡ what_extents (map-RWhat RBranchWhat RWhat RBranch RStmt Extent Extent Extent Extent branch_what_extent what_extent branch_extent stmt_extent y)
at_what y = fold-roll-RWhat Extent Extent Extent Extent branch_extents what_extents (λ b. b.what) (λ s. s.what) y

pub at_branch : (y : RBranchWhat-F RBranchWhat RWhat RBranch RStmt)
    → branch_what_extent (roll-RBranchWhat y) ≡ branch_extents (map-RBranchWhat RBranchWhat RWhat RBranch RStmt Extent Extent Extent Extent branch_what_extent what_extent branch_extent stmt_extent y)
at_branch y = fold-roll-RBranchWhat Extent Extent Extent Extent branch_extents what_extents (λ b. b.what) (λ s. s.what) y

pub at_declare : (ty : Ty) (x : ℕ) (e : Option UExpr) → what_extent (r.Declare ty x e) ≡ declaration (suc (option_size e))
unfolding roll-RWhat denote.Hole.Carrier.roll
at_declare ty x e = at_what (RWhat-F.Declare ty x e)

pub at_assign : (x : ℕ) (e : UExpr) → what_extent (r.Assign x e) ≡ plain (suc (expr_size e))
unfolding roll-RWhat denote.Hole.Carrier.roll
at_assign x e = at_what (RWhat-F.Assign x e)

pub at_next : (x : ℕ) → what_extent (r.Next x) ≡ plain 1
unfolding roll-RWhat denote.Hole.Carrier.roll
at_next x = at_what (RWhat-F.Next x)

pub at_next_assign : (x : ℕ) (e : UExpr) → what_extent (r.NextAssign x e) ≡ plain (suc (expr_size e))
unfolding roll-RWhat denote.Hole.Carrier.roll
at_next_assign x e = at_what (RWhat-F.NextAssign x e)

pub at_assign_next : (x y : ℕ) → what_extent (r.AssignNext x y) ≡ plain 2
unfolding roll-RWhat denote.Hole.Carrier.roll
at_assign_next x y = at_what (RWhat-F.AssignNext x y)

pub at_get : (x y : ℕ) → what_extent (r.Get x y) ≡ plain 2
unfolding roll-RWhat denote.Hole.Carrier.roll
at_get x y = at_what (RWhat-F.Get x y)

pub at_put : (x : ℕ) (e : UExpr) → what_extent (r.Put x e) ≡ plain (suc (expr_size e))
unfolding roll-RWhat denote.Hole.Carrier.roll
at_put x e = at_what (RWhat-F.Put x e)

pub at_if : (e : UExpr) (first other : List RStmt) → what_extent (r.If e first other) ≡ larger (suc (expr_size e)) (sum_of_two (extent first) (extent other))
unfolding roll-RWhat denote.Hole.Carrier.roll
at_if e first other = at_what (RWhat-F.If e first other)

pub at_while : (e : UExpr) (body : List RStmt) → what_extent (r.While e body) ≡ larger (suc (expr_size e)) (extent body)
unfolding roll-RWhat denote.Hole.Carrier.roll
at_while e body = at_what (RWhat-F.While e body)

pub at_for : (first : List RStmt) (test : Option UExpr) (step body : List RStmt)
    → what_extent (r.For first test step body) ≡ larger (suc (option_size test)) (sum_of_two (extent first) (sum_of_two (extent step) (extent body)))
unfolding roll-RWhat denote.Hole.Carrier.roll
at_for first test step body = at_what (RWhat-F.For first test step body)

pub at_block : (body : List RStmt) → what_extent (r.Block body) ≡ larger 1 (extent body)
unfolding roll-RWhat denote.Hole.Carrier.roll
at_block body = at_what (RWhat-F.RWhat::Block body)

pub at_call : (c : RCall) → what_extent (r.Call c) ≡ plain (call_size c)
unfolding roll-RWhat denote.Hole.Carrier.roll
at_call c = at_what (RWhat-F.RWhat::Call c)

pub at_try : (body : List RStmt) (x : ℕ) (y : Option ℕ) (handler : List RStmt) → what_extent (r.Try body x y handler) ≡ larger 1 (sum_of_two (extent body) (sum_of_two (variable_extent y) (extent handler)))
unfolding roll-RWhat denote.Hole.Carrier.roll
at_try body x y handler = at_what (RWhat-F.Try body x y handler)

pub at_throw : (x : ℕ) (e : Option UExpr) → what_extent (r.Throw x e) ≡ plain (suc (option_size e))
unfolding roll-RWhat denote.Hole.Carrier.roll
at_throw x e = at_what (RWhat-F.Throw x e)

pub at_par : (branches : List RBranch) → what_extent (r.Par branches) ≡ in_own_units (fork_extent branches)
unfolding roll-RWhat denote.Hole.Carrier.roll
at_par branches = at_what (RWhat-F.Par branches)

pub at_block_branch : (body : List RStmt) → branch_what_extent (rb.Block body) ≡ in_own_units (extent body)
unfolding roll-RBranchWhat denote.Hole.Carrier.roll
at_block_branch body = at_branch (RBranchWhat-F.RBranchWhat::Block body)

pub at_call_branch : (c : RCall) → branch_what_extent (rb.Call c) ≡ plain (call_size c)
unfolding roll-RBranchWhat denote.Hole.Carrier.roll
at_call_branch c = at_branch (RBranchWhat-F.RBranchWhat::Call c)
