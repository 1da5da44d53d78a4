-- How large a program is, bound and as units, counted as `Sizes` of `shim_syntax` counts its tree. A unit counts one, and so does each of its parameters and arguments that are variables; the exceptions that it is given don't count.
use Rattle.std.specs.Prelude.{ℕ, suc, ◌+◌, ◌<◌, ◌^◌, List, [], ◌∷◌, Option, Some, None, map, length}
use Rattle.shim_syntax.specs.Sizes.{sum_of}
use Rattle.shim_scopes.specs.declared.tree.UExpr.{UExpr, fold-UExpr, UExpr-F}
use Rattle.shim_scopes.specs.declared.tree.RCall.{RCall}
use Rattle.shim_scopes.specs.declared.tree.RFunction.{RFunction}
use Rattle.shim_scopes.specs.declared.tree.RStmt.{RStmt, fold-RStmt}
use Rattle.shim_scopes.specs.declared.tree.RWhat.{RWhat, RWhat-F, fold-RWhat}
use Rattle.shim_scopes.specs.declared.tree.RBranch.{RBranch, fold-RBranch}
use Rattle.shim_scopes.specs.declared.tree.RBranchWhat.{RBranchWhat, RBranchWhat-F, fold-RBranchWhat}
use Rattle.shim_units.specs.declared.unit.Arg.{Arg}
use Rattle.shim_units.specs.declared.unit.Arg.TheVariants.{Ref, Pass, Fresh}
use Rattle.shim_units.specs.declared.unit.UCall.{UCall}
use Rattle.shim_units.specs.declared.unit.UStmt.{UStmt, fold-UStmt}
use Rattle.shim_units.specs.declared.unit.UWhat.{UWhat, UWhat-F, fold-UWhat}
use Rattle.shim_units.specs.declared.unit.UBranch.{UBranch}
use Rattle.shim_units.specs.declared.unit.Unit.{Unit as UnitOf}
use Rattle.shim_units.specs.Numbering.{size_all}

-- the size of an expression, given the sizes of its operands: each number, each variable and each operator counts one
abbrev pub expr_counts : UExpr-F ℕ → ℕ
expr_counts (UExpr-F.Number n) = 1
expr_counts (UExpr-F.Var x) = 1
expr_counts (UExpr-F.Unary op a) = suc a
expr_counts (UExpr-F.Binary op a b) = suc (a + b)

unfoldable pub expr_size : UExpr → ℕ
expr_size = fold-UExpr ℕ expr_counts

-- the size of an expression, and 0 where there is none
abbrev pub option_size : Option UExpr → ℕ
option_size None = 0
option_size (Some e) = expr_size e

-- bound statements

-- Of a part of a function's text: its size; how many variables it declares outside its forks (`own`) and inside them (`forked`); and the size of what its outermost forks hold (`inside`).
pub record Extent : Type 0 where
  pub size : ℕ
  pub own : ℕ
  pub forked : ℕ
  pub inside : ℕ

-- the extent of a part of size n that declares no variable and has no fork
abbrev pub plain : ℕ → Extent
plain n = record { size = n; own = 0; forked = 0; inside = 0 }

-- the extent of a part of size n that declares one variable and has no fork
abbrev pub declaration : ℕ → Extent
declaration n = record { size = n; own = 1; forked = 0; inside = 0 }

-- the extent with n added to its size
abbrev pub larger : ℕ → Extent → Extent
larger n e = record { size = n + e.size; own = e.own; forked = e.forked; inside = e.inside }

-- of two parts together
abbrev pub sum_of_two : Extent → Extent → Extent
sum_of_two a b = record { size = a.size + b.size; own = a.own + b.own; forked = a.forked + b.forked; inside = a.inside + b.inside }

abbrev sum_of_all : List Extent → Extent
sum_of_all [] = plain 0
sum_of_all (e ∷ es) = sum_of_two e (sum_of_all es)

-- The extent of a block branch or of a fork, from that of what it holds. The variables declared there are variables of other units.
abbrev pub in_own_units : Extent → Extent
in_own_units e = record { size = suc e.size; own = 0; forked = e.own + e.forked; inside = e.size }

-- the variable of a handler, where it has one
abbrev pub variable_extent : Option ℕ → Extent
variable_extent None = plain 0
variable_extent (Some x) = declaration 1

-- one for the function that is called, and the sizes of the arguments
abbrev pub call_size : RCall → ℕ
call_size c = suc (sum_of (map expr_size c.args))

-- the extent of what a branch does, given the extents of its statements
abbrev pub branch_extents : RBranchWhat-F Extent Extent Extent Extent → Extent
branch_extents (RBranchWhat-F.RBranchWhat::Block body) = in_own_units (sum_of_all body)
branch_extents (RBranchWhat-F.RBranchWhat::Call c) = plain (call_size c)

-- the extent of what a statement does, given the extents of its parts
abbrev pub what_extents : RWhat-F Extent Extent Extent Extent → Extent
what_extents (RWhat-F.Declare ty x e) = declaration (suc (option_size e))
what_extents (RWhat-F.Assign x e) = plain (suc (expr_size e))
what_extents (RWhat-F.Next x) = plain 1
what_extents (RWhat-F.NextAssign x e) = plain (suc (expr_size e))
what_extents (RWhat-F.AssignNext x y) = plain 2
what_extents (RWhat-F.Get x y) = plain 2
what_extents (RWhat-F.Put x e) = plain (suc (expr_size e))
what_extents (RWhat-F.If e first other) = larger (suc (expr_size e)) (sum_of_two (sum_of_all first) (sum_of_all other))
what_extents (RWhat-F.While e body) = larger (suc (expr_size e)) (sum_of_all body)
what_extents (RWhat-F.For first test step body) = larger (suc (option_size test)) (sum_of_two (sum_of_all first) (sum_of_two (sum_of_all step) (sum_of_all body)))
what_extents (RWhat-F.RWhat::Block body) = larger 1 (sum_of_all body)
what_extents (RWhat-F.RWhat::Call c) = plain (call_size c)
what_extents (RWhat-F.Try body x y handler) = larger 1 (sum_of_two (sum_of_all body) (sum_of_two (variable_extent y) (sum_of_all handler)))
what_extents (RWhat-F.Throw x e) = plain (suc (option_size e))
what_extents (RWhat-F.Par branches) = in_own_units (sum_of_all branches)

-- The extent of what a branch does. `what_extent`, `branch_extent` and `stmt_extent` are the same of what a statement does, of a branch and of a statement.
abbrev pub branch_what_extent : RBranchWhat → Extent
branch_what_extent = fold-RBranchWhat Extent Extent Extent Extent branch_extents what_extents (λ b. b.what) (λ s. s.what)

abbrev pub what_extent : RWhat → Extent
what_extent = fold-RWhat Extent Extent Extent Extent branch_extents what_extents (λ b. b.what) (λ s. s.what)

abbrev pub branch_extent : RBranch → Extent
branch_extent = fold-RBranch Extent Extent Extent Extent branch_extents what_extents (λ b. b.what) (λ s. s.what)

abbrev pub stmt_extent : RStmt → Extent
stmt_extent = fold-RStmt Extent Extent Extent Extent branch_extents what_extents (λ b. b.what) (λ s. s.what)

-- the extents of the statements, added up
abbrev pub extent : List RStmt → Extent
extent body = sum_of_all (map stmt_extent body)

-- The extents of a fork's branches, added up. The extent of the fork itself is `in_own_units` of them.
abbrev pub fork_extent : List RBranch → Extent
fork_extent branches = sum_of_all (map branch_extent branches)

-- one for the function, one for each parameter and each exception in its `throws`, and the size of its body
abbrev pub function_size : RFunction → ℕ
function_size f = suc (length f.params + (length f.throws + (extent f.body).size))

abbrev pub functions_size : List RFunction → ℕ
functions_size fs = sum_of (map function_size fs)

-- units

-- A variable counts one. An argument that is computed has the size of its expression.
abbrev pub arg_size : Arg → ℕ
arg_size (Ref x) = 1
arg_size (Pass x) = 1
arg_size (Fresh e) = expr_size e

abbrev pub args_size : List Arg → ℕ
args_size args = sum_of (map arg_size args)

-- one for the unit that is called, and the sizes of the arguments
abbrev pub unit_call_size : UCall → ℕ
unit_call_size c = suc (args_size c.args)

-- a branch of a fork in a unit has the size of its call
abbrev pub unit_branch_size : UBranch → ℕ
unit_branch_size b = unit_call_size b.call

-- one for the variable of a handler, and 0 where it has none
abbrev pub slot_size : Option ℕ → ℕ
slot_size None = 0
slot_size (Some x) = 1

-- the size of what a statement of a unit does, given the sizes of the statements in it
abbrev pub what_counts : UWhat-F ℕ ℕ → ℕ
what_counts (UWhat-F.Declare ty x e) = suc (option_size e)
what_counts (UWhat-F.Assign x e) = suc (expr_size e)
what_counts (UWhat-F.Next x) = 1
what_counts (UWhat-F.NextAssign x e) = suc (expr_size e)
what_counts (UWhat-F.AssignNext x y) = 2
what_counts (UWhat-F.Get x y) = 2
what_counts (UWhat-F.Put x e) = suc (expr_size e)
what_counts (UWhat-F.If e first other) = suc (expr_size e + (sum_of first + sum_of other))
what_counts (UWhat-F.While e body) = suc (expr_size e + sum_of body)
what_counts (UWhat-F.For first test step body) = suc (option_size test + (sum_of first + (sum_of step + sum_of body)))
what_counts (UWhat-F.Block body) = suc (sum_of body)
what_counts (UWhat-F.Call c) = unit_call_size c
what_counts (UWhat-F.Try body x y handler) = suc (sum_of body + (slot_size y + sum_of handler))
what_counts (UWhat-F.Throw x e) = suc (option_size e)
what_counts (UWhat-F.Par branches) = suc (sum_of (map unit_branch_size branches))

-- The size of what a statement of a unit does. `stmt_size` is the same of the statement.
abbrev pub what_size : UWhat → ℕ
what_size = fold-UWhat ℕ ℕ what_counts (λ s. s.what)

abbrev pub stmt_size : UStmt → ℕ
stmt_size = fold-UStmt ℕ ℕ what_counts (λ s. s.what)

abbrev pub stmts_size : List UStmt → ℕ
stmts_size body = sum_of (map stmt_size body)

-- One for the unit, one for each parameter, and the sizes of its statements. The arguments of its calls count, those of lifted branches, too.
abbrev pub unit_size : UnitOf → ℕ
unit_size u = suc (length u.params + stmts_size u.body)

abbrev pub units_size : List UnitOf → ℕ
units_size us = sum_of (map unit_size us)

-- how many numbers the statements of all units take
abbrev pub units_points : List UnitOf → ℕ
units_points us = sum_of (map (λ (u : UnitOf). size_all u.body) us)

-- there are fewer than 2^21 units, their statements take fewer than 2^21 numbers, and the size of all units together is below 2^28
pub record AreSmall (us : List UnitOf) : Type 0 where
  pub count : length us < 2 ^ 21
  pub points : units_points us < 2 ^ 21
  pub size : units_size us < 2 ^ 28

-- the numbers of the statements of each unit are signed numbers of 32 bits
abbrev pub AreFit : List UnitOf → Type 0
AreFit [] = Unit {0}
AreFit (u ∷ us) = (size_all u.body < 2 ^ 31) × AreFit us
