-- What there is to a statement of each compound kind, by what there is to its parts.
use Rattle.std.proofs.Common.{◌≡◌, ◌∙◌, ℕ, List, ap, Option}
use Rattle.shim_scopes.specs.declared.tree.UExpr.{UExpr}
use Rattle.shim_scopes.specs.declared.tree.RStmt.{RStmt, fold_out-RStmt}
use Rattle.shim_scopes.specs.declared.tree.RWhat.{RWhat, RWhat-F, roll-RWhat, fold-RWhat, fold-roll-RWhat}
use Rattle.shim_scopes.specs.declared.tree.RWhat.TheVariants as is
use Rattle.shim_scopes.specs.declared.tree.RBranch.{RBranch}
use Rattle.shim_units.specs.declared.unit.UCall.{UCall}
use Rattle.shim_units.specs.declared.unit.UStmt.{UStmt}
use Rattle.shim_units.specs.declared.unit.UWhat.{UWhat}
use Rattle.shim_units.specs.declared.unit.UBranch.{UBranch}
use Rattle.shim_units.specs.Parts.{Part}
use Rattle.shim_units.specs.PartFold.{branch_what_step, what_step, branch_step, stmt_step, in_line, part, parts, branch_parts}

-- what a statement of a line does, in its line
abbrev pub at_line : ℕ → Part UWhat → Part UStmt
at_line line p = in_line (λ t. record { line = line; what = t }) p

abbrev pub what_part : RWhat → ℕ → Part UWhat
what_part = fold-RWhat (ℕ → Part UCall) (ℕ → Part UWhat) (Part UBranch) (Part UStmt) branch_what_step what_step branch_step stmt_step

stmt_part : (s : RStmt) → part s ≡ at_line s.line (what_part s.what s.line)
stmt_part s = fold_out-RStmt (ℕ → Part UCall) (ℕ → Part UWhat) (Part UBranch) (Part UStmt) branch_what_step what_step branch_step stmt_step s

of_kind : (s : RStmt) (what : RWhat) (p : ℕ → Part UWhat) → s.what ≡ what → what_part what ≡ p → part s ≡ at_line s.line (p s.line)
of_kind s what p is made = stmt_part s ∙ ap (λ w. at_line s.line (what_part w s.line)) is ∙ ap (λ (q : ℕ → Part UWhat). at_line s.line (q s.line)) made

pub at_if : (s : RStmt) (e : UExpr) (first other : List RStmt) → s.what ≡ is.If e first other
    → part s ≡ at_line s.line (what_step (RWhat-F.If e (parts first) (parts other)) s.line)
unfolding roll-RWhat denote.Hole.Carrier.roll
at_if s e first other kind = of_kind s (is.If e first other) (what_step (RWhat-F.If e (parts first) (parts other))) kind
    (fold-roll-RWhat (ℕ → Part UCall) (ℕ → Part UWhat) (Part UBranch) (Part UStmt) branch_what_step what_step branch_step stmt_step (RWhat-F.If e first other))

pub at_while : (s : RStmt) (e : UExpr) (body : List RStmt) → s.what ≡ is.While e body
    → part s ≡ at_line s.line (what_step (RWhat-F.While e (parts body)) s.line)
unfolding roll-RWhat denote.Hole.Carrier.roll
at_while s e body kind = of_kind s (is.While e body) (what_step (RWhat-F.While e (parts body))) kind
    (fold-roll-RWhat (ℕ → Part UCall) (ℕ → Part UWhat) (Part UBranch) (Part UStmt) branch_what_step what_step branch_step stmt_step (RWhat-F.While e body))

pub at_for : (s : RStmt) (first : List RStmt) (test : Option UExpr) (step body : List RStmt) → s.what ≡ is.For first test step body
    → part s ≡ at_line s.line (what_step (RWhat-F.For (parts first) test (parts step) (parts body)) s.line)
unfolding roll-RWhat denote.Hole.Carrier.roll
at_for s first test step body kind = of_kind s (is.For first test step body) (what_step (RWhat-F.For (parts first) test (parts step) (parts body))) kind
    (fold-roll-RWhat (ℕ → Part UCall) (ℕ → Part UWhat) (Part UBranch) (Part UStmt) branch_what_step what_step branch_step stmt_step (RWhat-F.For first test step body))

pub at_try : (s : RStmt) (body : List RStmt) (x : ℕ) (y : Option ℕ) (handler : List RStmt) → s.what ≡ is.Try body x y handler
    → part s ≡ at_line s.line (what_step (RWhat-F.Try (parts body) x y (parts handler)) s.line)
unfolding roll-RWhat denote.Hole.Carrier.roll
at_try s body x y handler kind = of_kind s (is.Try body x y handler) (what_step (RWhat-F.Try (parts body) x y (parts handler))) kind
    (fold-roll-RWhat (ℕ → Part UCall) (ℕ → Part UWhat) (Part UBranch) (Part UStmt) branch_what_step what_step branch_step stmt_step (RWhat-F.Try body x y handler))

pub at_par : (s : RStmt) (branches : List RBranch) → s.what ≡ is.Par branches
    → part s ≡ at_line s.line (what_step (RWhat-F.Par (branch_parts branches)) s.line)
unfolding roll-RWhat denote.Hole.Carrier.roll
at_par s branches kind = of_kind s (is.Par branches) (what_step (RWhat-F.Par (branch_parts branches))) kind
    (fold-roll-RWhat (ℕ → Part UCall) (ℕ → Part UWhat) (Part UBranch) (Part UStmt) branch_what_step what_step branch_step stmt_step (RWhat-F.Par branches))
