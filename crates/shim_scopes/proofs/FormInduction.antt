-- One induction over the forms of bound statements and branches: what holds for a part if it holds for all that stands in it, holds for each.
use Rattle.std.proofs.Common.{ℕ, ◌≡◌, subst}
use Rattle.shim_syntax.proofs.FormInduction.{Each, each_of}
use Rattle.shim_scopes.specs.declared.tree.RStmt.{RStmt, ind-RStmt, roll-RStmt}
use Rattle.shim_scopes.specs.declared.tree.RWhat.{RWhat, RWhat-F, map-RWhat, roll-RWhat}
use Rattle.shim_scopes.specs.declared.tree.RBranch.{RBranch, ind-RBranch, roll-RBranch}
use Rattle.shim_scopes.specs.declared.tree.RBranchWhat.{RBranchWhat, RBranchWhat-F, map-RBranchWhat, roll-RBranchWhat}

-- for all statements and branches that stand in a part
abbrev pub InBranchWhat : (RStmt → Type 0) → RBranchWhat-F RBranchWhat RWhat RBranch RStmt → Type 0
InBranchWhat S (RBranchWhat-F.RBranchWhat::Block body) = Each S body
InBranchWhat S (RBranchWhat-F.RBranchWhat::Call c) = Unit {0}

abbrev pub InWhat : (RBranch → Type 0) → (RStmt → Type 0) → RWhat-F RBranchWhat RWhat RBranch RStmt → Type 0
InWhat R S (RWhat-F.Declare ty x e) = Unit {0}
InWhat R S (RWhat-F.Assign x e) = Unit {0}
InWhat R S (RWhat-F.Next x) = Unit {0}
InWhat R S (RWhat-F.NextAssign x e) = Unit {0}
InWhat R S (RWhat-F.AssignNext x y) = Unit {0}
InWhat R S (RWhat-F.Get x y) = Unit {0}
InWhat R S (RWhat-F.Put x e) = Unit {0}
InWhat R S (RWhat-F.If e first other) = Each S first × Each S other
InWhat R S (RWhat-F.While e body) = Each S body
InWhat R S (RWhat-F.For first test step body) = Each S first × Each S step × Each S body
InWhat R S (RWhat-F.RWhat::Block body) = Each S body
InWhat R S (RWhat-F.RWhat::Call c) = Unit {0}
InWhat R S (RWhat-F.Try body x y handler) = Each S body × Each S handler
InWhat R S (RWhat-F.Throw x e) = Unit {0}
InWhat R S (RWhat-F.Par bs) = Each R bs

module _ (B : RBranchWhat → Type 0) (W : RWhat → Type 0) (R : RBranch → Type 0) (S : RStmt → Type 0) where
  -- a part with the fact
  abbrev PartBranchWhat : Type 0
  PartBranchWhat = (x : RBranchWhat) × B x

  abbrev PartWhat : Type 0
  PartWhat = (x : RWhat) × W x

  abbrev PartBranch : Type 0
  PartBranch = (b : RBranch) × R b

  abbrev PartStmt : Type 0
  PartStmt = (s : RStmt) × S s

  abbrev branch_what_of : RBranchWhat-F PartBranchWhat PartWhat PartBranch PartStmt → RBranchWhat-F RBranchWhat RWhat RBranch RStmt
  branch_what_of y = map-RBranchWhat PartBranchWhat PartWhat PartBranch PartStmt RBranchWhat RWhat RBranch RStmt (λ e. e.0) (λ e. e.0) (λ e. e.0) (λ e. e.0) y

  abbrev what_of : RWhat-F PartBranchWhat PartWhat PartBranch PartStmt → RWhat-F RBranchWhat RWhat RBranch RStmt
  what_of y = map-RWhat PartBranchWhat PartWhat PartBranch PartStmt RBranchWhat RWhat RBranch RStmt (λ e. e.0) (λ e. e.0) (λ e. e.0) (λ e. e.0) y

  in_branch_what : (y : RBranchWhat-F PartBranchWhat PartWhat PartBranch PartStmt) → InBranchWhat S (branch_what_of y)
  in_branch_what (RBranchWhat-F.RBranchWhat::Block body) = each_of S body
  in_branch_what (RBranchWhat-F.RBranchWhat::Call c) = tt

  in_what : (y : RWhat-F PartBranchWhat PartWhat PartBranch PartStmt) → InWhat R S (what_of y)
  in_what (RWhat-F.Declare ty x e) = tt
  in_what (RWhat-F.Assign x e) = tt
  in_what (RWhat-F.Next x) = tt
  in_what (RWhat-F.NextAssign x e) = tt
  in_what (RWhat-F.AssignNext x y) = tt
  in_what (RWhat-F.Get x y) = tt
  in_what (RWhat-F.Put x e) = tt
  in_what (RWhat-F.If e first other) = (each_of S first, each_of S other)
  in_what (RWhat-F.While e body) = each_of S body
  in_what (RWhat-F.For first test step body) = (each_of S first, each_of S step, each_of S body)
  in_what (RWhat-F.RWhat::Block body) = each_of S body
  in_what (RWhat-F.RWhat::Call c) = tt
  in_what (RWhat-F.Try body x y handler) = (each_of S body, each_of S handler)
  in_what (RWhat-F.Throw x e) = tt
  in_what (RWhat-F.Par bs) = each_of R bs

  module _ (of_branch_what : (y : RBranchWhat-F RBranchWhat RWhat RBranch RStmt) → InBranchWhat S y → B (roll-RBranchWhat y))
      (of_what : (y : RWhat-F RBranchWhat RWhat RBranch RStmt) → InWhat R S y → W (roll-RWhat y))
      (of_branch : (line : ℕ) (x : RBranchWhat) → B x → R (record { line = line; what = x }))
      (of_stmt : (line : ℕ) (x : RWhat) → W x → S (record { line = line; what = x })) where
    branch_what_case : (x : RBranchWhat-F RBranchWhat RWhat RBranch RStmt) (y : RBranchWhat-F PartBranchWhat PartWhat PartBranch PartStmt) → branch_what_of y ≡ x → B (roll-RBranchWhat x)
    branch_what_case x y is = subst (λ z. B (roll-RBranchWhat z)) is (of_branch_what (branch_what_of y) (in_branch_what y))

    what_case : (x : RWhat-F RBranchWhat RWhat RBranch RStmt) (y : RWhat-F PartBranchWhat PartWhat PartBranch PartStmt) → what_of y ≡ x → W (roll-RWhat x)
    what_case x y is = subst (λ z. W (roll-RWhat z)) is (of_what (what_of y) (in_what y))

    pub each_stmt : (s : RStmt) → S s
    each_stmt = ind-RStmt B W R S branch_what_case what_case
        (λ x y is. subst (λ z. R (roll-RBranch z)) is (of_branch y.line y.what.0 y.what.1)) (λ x y is. subst (λ z. S (roll-RStmt z)) is (of_stmt y.line y.what.0 y.what.1))

    pub each_branch : (b : RBranch) → R b
    each_branch = ind-RBranch B W R S branch_what_case what_case
        (λ x y is. subst (λ z. R (roll-RBranch z)) is (of_branch y.line y.what.0 y.what.1)) (λ x y is. subst (λ z. S (roll-RStmt z)) is (of_stmt y.line y.what.0 y.what.1))
