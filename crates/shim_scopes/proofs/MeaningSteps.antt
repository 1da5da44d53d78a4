-- What each form of statement and branch is bound to, by what its parts are bound to.
use Rattle.std.proofs.Common.{ℕ, ◌≡◌}
use Rattle.shim_syntax.specs.declared.tree.Stmt.{Stmt, fold-roll-Stmt}
use Rattle.shim_syntax.specs.declared.tree.What.{What, What-F, fold-What, fold-roll-What, map-What, roll-What}
use Rattle.shim_syntax.specs.declared.tree.Branch.{Branch, fold-roll-Branch}
use Rattle.shim_syntax.specs.declared.tree.BranchWhat.{BranchWhat, BranchWhat-F, fold-BranchWhat, fold-roll-BranchWhat, map-BranchWhat, roll-BranchWhat}
use Rattle.shim_scopes.specs.Statements.{Whole}
use Rattle.shim_scopes.specs.Bodies.{WhatMeans, StmtMeans, BranchMeans, BranchWhatMeans, bind_branch_what_step, bind_what_step, bind_branch_step, bind_stmt_step, stmt_meaning, bind_branch}

module _ (w : Whole) where
  abbrev pub branch_what_means : BranchWhat → BranchWhatMeans
  branch_what_means = fold-BranchWhat BranchWhatMeans WhatMeans BranchMeans StmtMeans (bind_branch_what_step w) (bind_what_step w) bind_branch_step bind_stmt_step

  abbrev pub what_means : What → WhatMeans
  what_means = fold-What BranchWhatMeans WhatMeans BranchMeans StmtMeans (bind_branch_what_step w) (bind_what_step w) bind_branch_step bind_stmt_step

  abbrev pub branch_what_at : BranchWhat-F BranchWhat What Branch Stmt → BranchWhatMeans
  branch_what_at z = bind_branch_what_step w (map-BranchWhat BranchWhat What Branch Stmt BranchWhatMeans WhatMeans BranchMeans StmtMeans branch_what_means what_means (bind_branch w) (stmt_meaning w) z)

  abbrev pub what_at : What-F BranchWhat What Branch Stmt → WhatMeans
  what_at z = bind_what_step w (map-What BranchWhat What Branch Stmt BranchWhatMeans WhatMeans BranchMeans StmtMeans branch_what_means what_means (bind_branch w) (stmt_meaning w) z)

  pub rolled_branch_what : (z : BranchWhat-F BranchWhat What Branch Stmt) → branch_what_means (roll-BranchWhat z) ≡ branch_what_at z
  rolled_branch_what z = fold-roll-BranchWhat BranchWhatMeans WhatMeans BranchMeans StmtMeans (bind_branch_what_step w) (bind_what_step w) bind_branch_step bind_stmt_step z

  pub rolled_what : (z : What-F BranchWhat What Branch Stmt) → what_means (roll-What z) ≡ what_at z
  rolled_what z = fold-roll-What BranchWhatMeans WhatMeans BranchMeans StmtMeans (bind_branch_what_step w) (bind_what_step w) bind_branch_step bind_stmt_step z

  abbrev pub branch_at : ℕ → BranchWhat → BranchMeans
  branch_at line x = bind_branch_step (record { line = line; what = branch_what_means x })

  abbrev pub stmt_at : ℕ → What → StmtMeans
  stmt_at line x = bind_stmt_step (record { line = line; what = what_means x })

  pub branch_means : (line : ℕ) (x : BranchWhat) → bind_branch w (record { line = line; what = x }) ≡ branch_at line x
  branch_means line x = fold-roll-Branch BranchWhatMeans WhatMeans BranchMeans StmtMeans (bind_branch_what_step w) (bind_what_step w) bind_branch_step bind_stmt_step (record { line = line; what = x })

  pub stmt_means : (line : ℕ) (x : What) → stmt_meaning w (record { line = line; what = x }) ≡ stmt_at line x
  stmt_means line x = fold-roll-Stmt BranchWhatMeans WhatMeans BranchMeans StmtMeans (bind_branch_what_step w) (bind_what_step w) bind_branch_step bind_stmt_step (record { line = line; what = x })
