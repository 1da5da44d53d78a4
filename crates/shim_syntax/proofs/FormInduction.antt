-- One induction over the forms of statements and branches: what holds for a part if it holds for all that stands in it, holds for each.
use Rattle.std.proofs.Common.{ℕ, ◌≡◌, List, [], ◌∷◌, map, subst}
use Rattle.shim_syntax.specs.declared.tree.Stmt.{Stmt, ind-Stmt, roll-Stmt}
use Rattle.shim_syntax.specs.declared.tree.What.{What, What-F, map-What, roll-What}
use Rattle.shim_syntax.specs.declared.tree.Branch.{Branch, ind-Branch, roll-Branch}
use Rattle.shim_syntax.specs.declared.tree.BranchWhat.{BranchWhat, BranchWhat-F, map-BranchWhat, roll-BranchWhat}

abbrev pub Each : {A : Type 0} → (A → Type 0) → List A → Type 0
Each P [] = Unit {0}
Each P (x ∷ xs) = P x × Each P xs

pub each : {A : Type 0} (P : A → Type 0) → ((x : A) → P x) → (xs : List A) → Each P xs
each P all [] = tt
each P all (x ∷ xs) = (all x, each P all xs)

-- of a list in which each comes with the fact
pub each_of : {A : Type 0} (P : A → Type 0) (ys : List ((x : A) × P x)) → Each P (map (λ (y : (x : A) × P x). y.0) ys)
each_of P [] = tt
each_of P (y ∷ ys) = (y.1, each_of P ys)

-- for all statements and branches that stand in a part
abbrev pub InBranchWhat : (Stmt → Type 0) → BranchWhat-F BranchWhat What Branch Stmt → Type 0
InBranchWhat S (BranchWhat-F.BranchWhat::Block body) = Each S body
InBranchWhat S (BranchWhat-F.BranchWhat::Call c) = Unit {0}

abbrev pub InWhat : (Branch → Type 0) → (Stmt → Type 0) → What-F BranchWhat What Branch Stmt → Type 0
InWhat R S (What-F.Declare ty x e) = Unit {0}
InWhat R S (What-F.Assign x e) = Unit {0}
InWhat R S (What-F.Next x) = Unit {0}
InWhat R S (What-F.NextAssign x e) = Unit {0}
InWhat R S (What-F.AssignNext x y) = Unit {0}
InWhat R S (What-F.Get x y) = Unit {0}
InWhat R S (What-F.Put x e) = Unit {0}
InWhat R S (What-F.If e first other) = Each S first × Each S other
InWhat R S (What-F.While e body) = Each S body
InWhat R S (What-F.For first test step body) = Each S first × Each S step × Each S body
InWhat R S (What-F.What::Block body) = Each S body
InWhat R S (What-F.What::Call c) = Unit {0}
InWhat R S (What-F.Try body x y handler) = Each S body × Each S handler
InWhat R S (What-F.Throw x e) = Unit {0}
InWhat R S (What-F.Par bs) = Each R bs

module _ (B : BranchWhat → Type 0) (W : What → Type 0) (R : Branch → Type 0) (S : Stmt → Type 0) where
  -- a part with the fact
  abbrev PartBranchWhat : Type 0
  PartBranchWhat = (x : BranchWhat) × B x

  abbrev PartWhat : Type 0
  PartWhat = (x : What) × W x

  abbrev PartBranch : Type 0
  PartBranch = (b : Branch) × R b

  abbrev PartStmt : Type 0
  PartStmt = (s : Stmt) × S s

  abbrev branch_what_of : BranchWhat-F PartBranchWhat PartWhat PartBranch PartStmt → BranchWhat-F BranchWhat What Branch Stmt
  branch_what_of y = map-BranchWhat PartBranchWhat PartWhat PartBranch PartStmt BranchWhat What Branch Stmt (λ e. e.0) (λ e. e.0) (λ e. e.0) (λ e. e.0) y

  abbrev what_of : What-F PartBranchWhat PartWhat PartBranch PartStmt → What-F BranchWhat What Branch Stmt
  what_of y = map-What PartBranchWhat PartWhat PartBranch PartStmt BranchWhat What Branch Stmt (λ e. e.0) (λ e. e.0) (λ e. e.0) (λ e. e.0) y

  in_branch_what : (y : BranchWhat-F PartBranchWhat PartWhat PartBranch PartStmt) → InBranchWhat S (branch_what_of y)
  in_branch_what (BranchWhat-F.BranchWhat::Block body) = each_of S body
  in_branch_what (BranchWhat-F.BranchWhat::Call c) = tt

  in_what : (y : What-F PartBranchWhat PartWhat PartBranch PartStmt) → InWhat R S (what_of y)
  in_what (What-F.Declare ty x e) = tt
  in_what (What-F.Assign x e) = tt
  in_what (What-F.Next x) = tt
  in_what (What-F.NextAssign x e) = tt
  in_what (What-F.AssignNext x y) = tt
  in_what (What-F.Get x y) = tt
  in_what (What-F.Put x e) = tt
  in_what (What-F.If e first other) = (each_of S first, each_of S other)
  in_what (What-F.While e body) = each_of S body
  in_what (What-F.For first test step body) = (each_of S first, each_of S step, each_of S body)
  in_what (What-F.What::Block body) = each_of S body
  in_what (What-F.What::Call c) = tt
  in_what (What-F.Try body x y handler) = (each_of S body, each_of S handler)
  in_what (What-F.Throw x e) = tt
  in_what (What-F.Par bs) = each_of R bs

  module _ (of_branch_what : (y : BranchWhat-F BranchWhat What Branch Stmt) → InBranchWhat S y → B (roll-BranchWhat y))
      (of_what : (y : What-F BranchWhat What Branch Stmt) → InWhat R S y → W (roll-What y))
      (of_branch : (line : ℕ) (x : BranchWhat) → B x → R (record { line = line; what = x }))
      (of_stmt : (line : ℕ) (x : What) → W x → S (record { line = line; what = x })) where
    branch_what_case : (x : BranchWhat-F BranchWhat What Branch Stmt) (y : BranchWhat-F PartBranchWhat PartWhat PartBranch PartStmt) → branch_what_of y ≡ x → B (roll-BranchWhat x)
    branch_what_case x y is = subst (λ z. B (roll-BranchWhat z)) is (of_branch_what (branch_what_of y) (in_branch_what y))

    what_case : (x : What-F BranchWhat What Branch Stmt) (y : What-F PartBranchWhat PartWhat PartBranch PartStmt) → what_of y ≡ x → W (roll-What x)
    what_case x y is = subst (λ z. W (roll-What z)) is (of_what (what_of y) (in_what y))

    pub each_stmt : (s : Stmt) → S s
    each_stmt = ind-Stmt B W R S branch_what_case what_case
        (λ x y is. subst (λ z. R (roll-Branch z)) is (of_branch y.line y.what.0 y.what.1)) (λ x y is. subst (λ z. S (roll-Stmt z)) is (of_stmt y.line y.what.0 y.what.1))

    pub each_branch : (b : Branch) → R b
    each_branch = ind-Branch B W R S branch_what_case what_case
        (λ x y is. subst (λ z. R (roll-Branch z)) is (of_branch y.line y.what.0 y.what.1)) (λ x y is. subst (λ z. S (roll-Stmt z)) is (of_stmt y.line y.what.0 y.what.1))
