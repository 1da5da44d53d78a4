use Rattle.std.proofs.Common.{◌≡◌, ◌++◌, drop, map}
use Rattle.shim_up.specs.Renaming.{renamed_stmt, renamed_branch}
use Rattle.shim_up.specs.Up.{replaced}
use Rattle.shim_up.proofs.renaming.+copies.Given as goal

abbrev pub invariant-copy_stmts-loop-stmt : goal.invariant-copy_stmts-loop-stmt
invariant-copy_stmts-loop-stmt l = l.made ++ map (renamed_stmt (replaced l.to)) (drop l.stmt-index l.body) ≡ map (renamed_stmt (replaced l.to)) l.body

abbrev pub invariant-copy_branches-loop-branch : goal.invariant-copy_branches-loop-branch
invariant-copy_branches-loop-branch l = l.made ++ map (renamed_branch (replaced l.to)) (drop l.branch-index l.branches) ≡ map (renamed_branch (replaced l.to)) l.branches
