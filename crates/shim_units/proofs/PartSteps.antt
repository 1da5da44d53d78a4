-- What there is to a statement and to a branch, by what they do.
use Rattle.std.proofs.Common.{ℕ}
use Rattle.shim_scopes.specs.declared.tree.RBranchWhat.{RBranchWhat, fold-RBranchWhat}
use Rattle.shim_scopes.specs.declared.tree.RWhat.{RWhat, fold-RWhat}
use Rattle.shim_units.specs.declared.unit.UBranch.{UBranch}
use Rattle.shim_units.specs.declared.unit.UCall.{UCall}
use Rattle.shim_units.specs.declared.unit.UStmt.{UStmt}
use Rattle.shim_units.specs.declared.unit.UWhat.{UWhat}
use Rattle.shim_units.specs.Parts.{Part}
use Rattle.shim_units.specs.PartFold.{branch_what_step, what_step, branch_step, stmt_step}

abbrev pub branch_what_part : RBranchWhat → ℕ → Part UCall
branch_what_part = fold-RBranchWhat (ℕ → Part UCall) (ℕ → Part UWhat) (Part UBranch) (Part UStmt) branch_what_step what_step branch_step stmt_step

abbrev pub what_part : RWhat → ℕ → Part UWhat
what_part = fold-RWhat (ℕ → Part UCall) (ℕ → Part UWhat) (Part UBranch) (Part UStmt) branch_what_step what_step branch_step stmt_step
