-- The calls of each kind of bound statement and branch, by those of its parts.
use Rattle.std.proofs.Common.{ℕ, ◌≡◌, List, [], ◌∷◌, ◌++◌, Option, map}
use Rattle.shim_base.specs.declared.types.Ty.{Ty}
use Rattle.shim_scopes.specs.declared.tree.UExpr.{UExpr}
use Rattle.shim_scopes.specs.declared.tree.RCall.{RCall}
use Rattle.shim_scopes.specs.declared.tree.RStmt.{RStmt, fold-roll-RStmt}
use Rattle.shim_scopes.specs.declared.tree.RWhat.{RWhat, RWhat-F, fold-RWhat, fold-roll-RWhat, map-RWhat, roll-RWhat}
use Rattle.shim_scopes.specs.declared.tree.RWhat.TheVariants as r
use Rattle.shim_scopes.specs.declared.tree.RBranch.{RBranch, fold-RBranch, fold-roll-RBranch}
use Rattle.shim_scopes.specs.declared.tree.RBranchWhat.{RBranchWhat, RBranchWhat-F, fold-RBranchWhat, fold-roll-RBranchWhat, map-RBranchWhat, roll-RBranchWhat}
use Rattle.shim_scopes.specs.declared.tree.RBranchWhat.TheVariants as rb
use Rattle.shim_laws_binding.specs.TextOrder.{concat}
use Rattle.shim_laws_binding.specs.HandedOn.{Calls, branch_what_calls, what_calls, stmt_calls, calls_among}

abbrev pub calls_of_branch_what : RBranchWhat → Calls
calls_of_branch_what = fold-RBranchWhat Calls Calls Calls Calls branch_what_calls what_calls (λ b. b.what) (λ s. s.what)

abbrev pub calls_of_what : RWhat → Calls
calls_of_what = fold-RWhat Calls Calls Calls Calls branch_what_calls what_calls (λ b. b.what) (λ s. s.what)

abbrev pub calls_of_branch : RBranch → Calls
calls_of_branch = fold-RBranch Calls Calls Calls Calls branch_what_calls what_calls (λ b. b.what) (λ s. s.what)

abbrev pub calls_of_branches : List RBranch → Calls
calls_of_branches branches = concat (map calls_of_branch branches)

pub calls_stmt : (line : ℕ) (t : RWhat) → stmt_calls (record { line = line; what = t }) ≡ calls_of_what t
calls_stmt line t = fold-roll-RStmt Calls Calls Calls Calls branch_what_calls what_calls (λ b. b.what) (λ s. s.what) (record { line = line; what = t })

pub calls_branch : (line : ℕ) (t : RBranchWhat) → calls_of_branch (record { line = line; what = t }) ≡ calls_of_branch_what t
calls_branch line t = fold-roll-RBranch Calls Calls Calls Calls branch_what_calls what_calls (λ b. b.what) (λ s. s.what) (record { line = line; what = t })

at_what : (y : RWhat-F RBranchWhat RWhat RBranch RStmt) → calls_of_what (roll-RWhat y) ≡ what_calls (map-RWhat RBranchWhat RWhat RBranch RStmt Calls Calls Calls Calls calls_of_branch_what calls_of_what calls_of_branch stmt_calls y)
at_what y = fold-roll-RWhat Calls Calls Calls Calls branch_what_calls what_calls (λ b. b.what) (λ s. s.what) y

at_branch : (y : RBranchWhat-F RBranchWhat RWhat RBranch RStmt)
    → calls_of_branch_what (roll-RBranchWhat y) ≡ branch_what_calls (map-RBranchWhat RBranchWhat RWhat RBranch RStmt Calls Calls Calls Calls calls_of_branch_what calls_of_what calls_of_branch stmt_calls y)
at_branch y = fold-roll-RBranchWhat Calls Calls Calls Calls branch_what_calls what_calls (λ b. b.what) (λ s. s.what) y

pub calls_declare : (ty : Ty) (slot : ℕ) (a : Option UExpr) → calls_of_what (r.Declare ty slot a) ≡ []
unfolding roll-RWhat denote.Hole.Carrier.roll
calls_declare ty slot a = at_what (RWhat-F.Declare ty slot a)

pub calls_assign : (slot : ℕ) (a : UExpr) → calls_of_what (r.Assign slot a) ≡ []
unfolding roll-RWhat denote.Hole.Carrier.roll
calls_assign slot a = at_what (RWhat-F.Assign slot a)

pub calls_next : (slot : ℕ) → calls_of_what (r.Next slot) ≡ []
unfolding roll-RWhat denote.Hole.Carrier.roll
calls_next slot = at_what (RWhat-F.Next slot)

pub calls_next_assign : (slot : ℕ) (a : UExpr) → calls_of_what (r.NextAssign slot a) ≡ []
unfolding roll-RWhat denote.Hole.Carrier.roll
calls_next_assign slot a = at_what (RWhat-F.NextAssign slot a)

pub calls_assign_next : (slot other : ℕ) → calls_of_what (r.AssignNext slot other) ≡ []
unfolding roll-RWhat denote.Hole.Carrier.roll
calls_assign_next slot other = at_what (RWhat-F.AssignNext slot other)

pub calls_get : (slot stream : ℕ) → calls_of_what (r.Get slot stream) ≡ []
unfolding roll-RWhat denote.Hole.Carrier.roll
calls_get slot stream = at_what (RWhat-F.Get slot stream)

pub calls_put : (stream : ℕ) (a : UExpr) → calls_of_what (r.Put stream a) ≡ []
unfolding roll-RWhat denote.Hole.Carrier.roll
calls_put stream a = at_what (RWhat-F.Put stream a)

pub calls_if : (test : UExpr) (first other : List RStmt) → calls_of_what (r.If test first other) ≡ calls_among first ++ calls_among other
unfolding roll-RWhat denote.Hole.Carrier.roll
calls_if test first other = at_what (RWhat-F.If test first other)

pub calls_while : (test : UExpr) (body : List RStmt) → calls_of_what (r.While test body) ≡ calls_among body
unfolding roll-RWhat denote.Hole.Carrier.roll
calls_while test body = at_what (RWhat-F.While test body)

pub calls_for : (first : List RStmt) (test : Option UExpr) (step body : List RStmt) → calls_of_what (r.For first test step body) ≡ calls_among first ++ (calls_among step ++ calls_among body)
unfolding roll-RWhat denote.Hole.Carrier.roll
calls_for first test step body = at_what (RWhat-F.For first test step body)

pub calls_block : (body : List RStmt) → calls_of_what (r.Block body) ≡ calls_among body
unfolding roll-RWhat denote.Hole.Carrier.roll
calls_block body = at_what (RWhat-F.RWhat::Block body)

pub calls_call : (c : RCall) → calls_of_what (r.Call c) ≡ c ∷ []
unfolding roll-RWhat denote.Hole.Carrier.roll
calls_call c = at_what (RWhat-F.RWhat::Call c)

pub calls_try : (body : List RStmt) (number : ℕ) (slot : Option ℕ) (handler : List RStmt) → calls_of_what (r.Try body number slot handler) ≡ calls_among body ++ calls_among handler
unfolding roll-RWhat denote.Hole.Carrier.roll
calls_try body number slot handler = at_what (RWhat-F.Try body number slot handler)

pub calls_throw : (number : ℕ) (a : Option UExpr) → calls_of_what (r.Throw number a) ≡ []
unfolding roll-RWhat denote.Hole.Carrier.roll
calls_throw number a = at_what (RWhat-F.Throw number a)

pub calls_par : (branches : List RBranch) → calls_of_what (r.Par branches) ≡ calls_of_branches branches
unfolding roll-RWhat denote.Hole.Carrier.roll
calls_par branches = at_what (RWhat-F.Par branches)

pub calls_block_branch : (body : List RStmt) → calls_of_branch_what (rb.Block body) ≡ calls_among body
unfolding roll-RBranchWhat denote.Hole.Carrier.roll
calls_block_branch body = at_branch (RBranchWhat-F.RBranchWhat::Block body)

pub calls_call_branch : (c : RCall) → calls_of_branch_what (rb.Call c) ≡ c ∷ []
unfolding roll-RBranchWhat denote.Hole.Carrier.roll
calls_call_branch c = at_branch (RBranchWhat-F.RBranchWhat::Call c)
