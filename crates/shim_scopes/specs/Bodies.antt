-- What the statements of a program are bound to: each by what its parts are bound to.
use Rattle.std.specs.Prelude.{ℕ, List, [], ◌∷◌, Ok, map}
use Rattle.shim_syntax.specs.declared.tree.Sort.TheVariants.{Value}
use Rattle.shim_syntax.specs.declared.tree.Stmt.{Stmt, fold-Stmt, Stmt-F}
use Rattle.shim_syntax.specs.declared.tree.What.{What-F, fold-What}
use Rattle.shim_syntax.specs.declared.tree.Branch.{Branch as BranchOf, fold-Branch, Branch-F}
use Rattle.shim_syntax.specs.declared.tree.BranchWhat.{BranchWhat-F}
use Rattle.shim_scopes.specs.declared.tree.RStmt.{RStmt}
use Rattle.shim_scopes.specs.declared.tree.RWhat.{RWhat}
use Rattle.shim_scopes.specs.declared.tree.RWhat.TheVariants.{Block as RBlock, Call as RCalled, Par}
use Rattle.shim_scopes.specs.declared.tree.RBranch.{RBranch}
use Rattle.shim_scopes.specs.declared.tree.RBranchWhat.{RBranchWhat}
use Rattle.shim_scopes.specs.declared.tree.RBranchWhat.TheVariants.{Block as BranchBlock, Call as BranchCall}
use Rattle.shim_scopes.specs.declared.scope.LocalDeclaration.{LocalDeclaration}
use Rattle.shim_scopes.specs.Refusals.{and_then}
use Rattle.shim_scopes.specs.Statements.{Whole, Bind, local_of, bind_declare, bind_assign, bind_next_assign, bind_next, bind_assign_next, bind_get, bind_put, bind_throw, bind_block, on_tree, bind_if, bind_while, bind_try, bind_for}
use Rattle.shim_scopes.specs.Calls.{bind_called}

-- what a statement means, given its line, and what it declares in its own block, given the next slot
pub record WhatMeans : Type 0 where
  pub bind : ℕ → Bind RWhat
  pub declares : ℕ → List LocalDeclaration

-- what a statement with its line means, and what it declares in its own block, given the next slot
pub record StmtMeans : Type 0 where
  pub bind : Bind RStmt
  pub declares : ℕ → List LocalDeclaration

abbrev pub no_locals : ℕ → List LocalDeclaration
no_locals slot = []

abbrev pub one_local : LocalDeclaration → List LocalDeclaration
one_local l = l ∷ []

-- one statement after another
abbrev pub bind_all : List StmtMeans → Bind (List RStmt)
bind_all [] a b = Ok (record { tree = []; before = b })
bind_all (f ∷ fs) a b =
    and_then (f.bind a b) (λ one. and_then (bind_all fs a one.before) (λ rest. Ok (record { tree = one.tree ∷ rest.tree; before = rest.before })))

-- one branch after another
abbrev pub bind_fork : List (Bind RBranch) → Bind (List RBranch)
bind_fork [] a b = Ok (record { tree = []; before = b })
bind_fork (f ∷ fs) a b =
    and_then (f a b) (λ one. and_then (bind_fork fs a one.before) (λ rest. Ok (record { tree = one.tree ∷ rest.tree; before = rest.before })))

-- what the first statement declares
abbrev pub first_declares : List StmtMeans → ℕ → List LocalDeclaration
first_declares [] slot = []
first_declares (f ∷ fs) slot = f.declares slot

-- what a branch means, by its line
abbrev pub BranchWhatMeans : Type 0
BranchWhatMeans = ℕ → Bind RBranchWhat

-- what a branch with its line means
abbrev pub BranchMeans : Type 0
BranchMeans = Bind RBranch

-- a branch, by what its parts mean: its statements in a block of their own, or its call
abbrev pub bind_branch_what_step : Whole → BranchWhat-F BranchWhatMeans WhatMeans BranchMeans StmtMeans → BranchWhatMeans
bind_branch_what_step w (BranchWhat-F.BranchWhat::Block body) line = on_tree BranchBlock (bind_block (bind_all body))
bind_branch_what_step w (BranchWhat-F.BranchWhat::Call c) line = bind_called BranchCall w c line

-- a statement, by what its parts mean; only a declaration declares something in its own block
abbrev pub bind_what_step : Whole → What-F BranchWhatMeans WhatMeans BranchMeans StmtMeans → WhatMeans
bind_what_step w (What-F.Declare ty x e) = record { bind = bind_declare w ty x e; declares = λ slot. one_local (local_of x (Value ty) slot) }
bind_what_step w (What-F.Assign x e) = record { bind = bind_assign x e; declares = no_locals }
bind_what_step w (What-F.Next x) = record { bind = bind_next x; declares = no_locals }
bind_what_step w (What-F.NextAssign x e) = record { bind = bind_next_assign x e; declares = no_locals }
bind_what_step w (What-F.AssignNext x y) = record { bind = bind_assign_next x y; declares = no_locals }
bind_what_step w (What-F.Get x y) = record { bind = bind_get x y; declares = no_locals }
bind_what_step w (What-F.Put x e) = record { bind = bind_put x e; declares = no_locals }
bind_what_step w (What-F.If e first other) = record { bind = bind_if e (bind_all first) (bind_all other); declares = no_locals }
bind_what_step w (What-F.While e body) = record { bind = bind_while e (bind_all body); declares = no_locals }
bind_what_step w (What-F.For first test step body) =
    record { bind = bind_for (first_declares first) test (bind_all first) (bind_all step) (bind_all body); declares = no_locals }
bind_what_step w (What-F.What::Block body) = record { bind = λ line. on_tree RBlock (bind_block (bind_all body)); declares = no_locals }
bind_what_step w (What-F.What::Call c) = record { bind = bind_called RCalled w c; declares = no_locals }
bind_what_step w (What-F.Try body x y handler) = record { bind = λ line. bind_try w x y (bind_all body) (bind_all handler); declares = no_locals }
bind_what_step w (What-F.Throw x e) = record { bind = bind_throw x e; declares = no_locals }
bind_what_step w (What-F.Par branches) = record { bind = λ line. on_tree Par (bind_fork branches); declares = no_locals }

-- a branch on its line, which its form has, too
abbrev pub bind_branch_step : Branch-F BranchWhatMeans WhatMeans BranchMeans StmtMeans → BranchMeans
bind_branch_step s = on_tree (λ t. record { line = s.line; what = t }) (s.what s.line)

-- a statement on its line, which its form has, too
abbrev pub bind_stmt_step : Stmt-F BranchWhatMeans WhatMeans BranchMeans StmtMeans → StmtMeans
bind_stmt_step s = record { bind = on_tree (λ t. record { line = s.line; what = t }) (s.what.bind s.line); declares = s.what.declares }

-- what a statement of a program means, and what it declares in its own block
abbrev pub stmt_meaning : Whole → Stmt → StmtMeans
stmt_meaning w = fold-Stmt BranchWhatMeans WhatMeans BranchMeans StmtMeans (bind_branch_what_step w) (bind_what_step w) bind_branch_step bind_stmt_step

abbrev pub bind_stmt : Whole → Stmt → Bind RStmt
bind_stmt w s = (stmt_meaning w s).bind

-- what a statement is bound to, without its line
abbrev pub bind_what : Whole → Stmt → Bind RWhat
bind_what w s = (fold-What BranchWhatMeans WhatMeans BranchMeans StmtMeans (bind_branch_what_step w) (bind_what_step w) bind_branch_step bind_stmt_step s.what).bind s.line

abbrev pub bind_branch : Whole → BranchOf → Bind RBranch
bind_branch w = fold-Branch BranchWhatMeans WhatMeans BranchMeans StmtMeans (bind_branch_what_step w) (bind_what_step w) bind_branch_step bind_stmt_step

abbrev pub bind_stmts : Whole → List Stmt → Bind (List RStmt)
bind_stmts w body = bind_all (map (stmt_meaning w) body)

-- what the first of some statements declares in its own block, given the next slot
abbrev pub declared_first : Whole → List Stmt → ℕ → List LocalDeclaration
declared_first w body = first_declares (map (stmt_meaning w) body)

abbrev pub bind_branches : Whole → List BranchOf → Bind (List RBranch)
bind_branches w branches = bind_fork (map (bind_branch w) branches)
