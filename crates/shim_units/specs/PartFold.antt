-- The `Part` of each statement and of each branch, computed from the `Part`s of what it holds.
use Rattle.std.specs.Prelude.{ℕ, List, [], map}
use Rattle.shim_scopes.specs.declared.tree.RFunction.{RFunction}
use Rattle.shim_scopes.specs.declared.tree.RStmt.{RStmt, fold-RStmt, RStmt-F}
use Rattle.shim_scopes.specs.declared.tree.RWhat.{RWhat-F}
use Rattle.shim_scopes.specs.declared.tree.RBranch.{RBranch, fold-RBranch, RBranch-F}
use Rattle.shim_scopes.specs.declared.tree.RBranchWhat.{RBranchWhat-F}
use Rattle.shim_units.specs.declared.found.Use.{Use}
use Rattle.shim_units.specs.declared.unit.UCall.{UCall}
use Rattle.shim_units.specs.declared.unit.UStmt.{UStmt}
use Rattle.shim_units.specs.declared.unit.UWhat.{UWhat}
use Rattle.shim_units.specs.declared.unit.UBranch.{UBranch}
use Rattle.shim_units.specs.Parts.{SharingPlace, Part, Lifts, all_uses, all_places, all_raises, all_declares, all_tries}
use Rattle.shim_units.specs.Uses.{what_uses, branch_what_uses}
use Rattle.shim_units.specs.Places.{what_places, branch_what_places}
use Rattle.shim_units.specs.Own.{what_raises, branch_what_raises, what_declares, what_tries}
use Rattle.shim_units.specs.Lifting.{on_tree, lift_all, lift_what, lift_branch_what}

-- The `Part` of what a branch in that line does, from the `Part`s of its statements. A branch declares no variable of the unit around it, and has no `try` of that unit.
abbrev pub branch_what_step : RBranchWhat-F (ℕ → Part UCall) (ℕ → Part UWhat) (Part UBranch) (Part UStmt) → ℕ → Part UCall
branch_what_step b line = record {
  uses = λ fs. branch_what_uses fs b;
  places = λ fs. branch_what_places fs b line;
  raises = branch_what_raises b;
  declares = [];
  tries = [];
  lift = lift_branch_what b;
}

-- the `Part` of what a statement in that line does, from the `Part`s of its statements and branches
abbrev pub what_step : RWhat-F (ℕ → Part UCall) (ℕ → Part UWhat) (Part UBranch) (Part UStmt) → ℕ → Part UWhat
what_step s line = record {
  uses = λ fs. what_uses fs s;
  places = λ fs. what_places fs s line;
  raises = what_raises s;
  declares = what_declares s;
  tries = what_tries s;
  lift = lift_what s;
}

-- The `Part` of a statement or a branch is that of what it does. Its tree has the line besides.
abbrev pub in_line : {S T : Type 0} → (S → T) → Part S → Part T
in_line g p = record {
  uses = p.uses;
  places = p.places;
  raises = p.raises;
  declares = p.declares;
  tries = p.tries;
  lift = λ context w n. on_tree g (p.lift context w n);
}

-- The `Part` of a branch, from the `Part` of what it does. `stmt_step` is the same of a statement.
abbrev pub branch_step : RBranch-F (ℕ → Part UCall) (ℕ → Part UWhat) (Part UBranch) (Part UStmt) → Part UBranch
branch_step b = in_line (λ c. record { line = b.line; call = c }) (b.what b.line)

abbrev pub stmt_step : RStmt-F (ℕ → Part UCall) (ℕ → Part UWhat) (Part UBranch) (Part UStmt) → Part UStmt
stmt_step s = in_line (λ t. record { line = s.line; what = t }) (s.what s.line)

-- The `Part` of a statement. `branch_part` is the same of a branch.
abbrev pub part : RStmt → Part UStmt
part = fold-RStmt (ℕ → Part UCall) (ℕ → Part UWhat) (Part UBranch) (Part UStmt) branch_what_step what_step branch_step stmt_step

abbrev pub branch_part : RBranch → Part UBranch
branch_part = fold-RBranch (ℕ → Part UCall) (ℕ → Part UWhat) (Part UBranch) (Part UStmt) branch_what_step what_step branch_step stmt_step

abbrev pub parts : List RStmt → List (Part UStmt)
parts body = map part body

abbrev pub branch_parts : List RBranch → List (Part UBranch)
branch_parts branches = map branch_part branches

-- of some statements

-- the uses of variables in the statements, by the functions that may be called
abbrev pub uses_in : List RFunction → List RStmt → List Use
uses_in fs body = all_uses fs (parts body)

-- the forks and calls in the statements, for the sharing rule, by the functions that may be called
abbrev pub places_in : List RFunction → List RStmt → List SharingPlace
places_in fs body = all_places fs (parts body)

-- the exceptions that the statements throw or pass on
abbrev pub raises_in : List RStmt → List ℕ
raises_in body = all_raises (parts body)

-- the variables of declarations and of handlers in the statements, without those in block branches
abbrev pub declares_in : List RStmt → List ℕ
declares_in body = all_declares (parts body)

-- the exceptions of the `try` statements in the text of the statements, without those in block branches
abbrev pub tries_in : List RStmt → List ℕ
tries_in body = all_tries (parts body)

-- the statements as a unit has them, with the units that are lifted out of them
abbrev pub lift_in : List RStmt → Lifts (List UStmt)
lift_in body = lift_all (parts body)
