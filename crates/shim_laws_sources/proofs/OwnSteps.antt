-- What a bound statement of each kind declares in its own unit, by what its parts declare.
use Rattle.std.proofs.Common.{ℕ, ◌≡◌, List, [], ◌∷◌, ◌++◌, Option, ap}
use Rattle.shim_base.specs.declared.types.Ty.{Ty}
use Rattle.shim_scopes.specs.declared.tree.UExpr.{UExpr}
use Rattle.shim_scopes.specs.declared.tree.RCall.{RCall}
use Rattle.shim_scopes.specs.declared.tree.RStmt.{RStmt, fold-roll-RStmt}
use Rattle.shim_scopes.specs.declared.tree.RWhat.{RWhat, RWhat-F, fold-roll-RWhat, map-RWhat, roll-RWhat}
use Rattle.shim_scopes.specs.declared.tree.RWhat.TheVariants as r
use Rattle.shim_scopes.specs.declared.tree.RBranch.{RBranch}
use Rattle.shim_scopes.specs.declared.tree.RBranchWhat.{RBranchWhat}
use Rattle.shim_units.specs.declared.unit.UBranch.{UBranch}
use Rattle.shim_units.specs.declared.unit.UCall.{UCall}
use Rattle.shim_units.specs.declared.unit.UStmt.{UStmt}
use Rattle.shim_units.specs.declared.unit.UWhat.{UWhat}
use Rattle.shim_units.specs.Parts.{Part}
use Rattle.shim_units.specs.Own.{what_declares}
use Rattle.shim_units.specs.Own.{some_slot}
use Rattle.shim_units.specs.PartFold.{branch_what_step, what_step, branch_step, stmt_step, part, branch_part, declares_in}
use Rattle.shim_units.proofs.PartSteps.{branch_what_part, what_part}

-- what a statement of that line declares by what it does
abbrev pub own_what : ℕ → RWhat → List ℕ
own_what line t = (what_part t line).declares

abbrev pub own_stmt : RStmt → List ℕ
own_stmt s = (part s).declares

pub own_in_line : (line : ℕ) (t : RWhat) → own_stmt (record { line = line; what = t }) ≡ own_what line t
own_in_line line t =
    ap (λ (p : Part UStmt). p.declares) (fold-roll-RStmt (ℕ → Part UCall) (ℕ → Part UWhat) (Part UBranch) (Part UStmt) branch_what_step what_step branch_step stmt_step (record { line = line; what = t }))

at_what : (line : ℕ) (y : RWhat-F RBranchWhat RWhat RBranch RStmt)
    → own_what line (roll-RWhat y) ≡ what_declares (map-RWhat RBranchWhat RWhat RBranch RStmt (ℕ → Part UCall) (ℕ → Part UWhat) (Part UBranch) (Part UStmt) branch_what_part what_part branch_part part y)
at_what line y = ap (λ (p : ℕ → Part UWhat). (p line).declares) (fold-roll-RWhat (ℕ → Part UCall) (ℕ → Part UWhat) (Part UBranch) (Part UStmt) branch_what_step what_step branch_step stmt_step y)

pub own_declare : (line : ℕ) (ty : Ty) (x : ℕ) (e : Option UExpr) → own_what line (r.Declare ty x e) ≡ x ∷ []
unfolding roll-RWhat denote.Hole.Carrier.roll
own_declare line ty x e = at_what line (RWhat-F.Declare ty x e)

pub own_assign : (line : ℕ) (x : ℕ) (e : UExpr) → own_what line (r.Assign x e) ≡ []
unfolding roll-RWhat denote.Hole.Carrier.roll
own_assign line x e = at_what line (RWhat-F.Assign x e)

pub own_next : (line : ℕ) (x : ℕ) → own_what line (r.Next x) ≡ []
unfolding roll-RWhat denote.Hole.Carrier.roll
own_next line x = at_what line (RWhat-F.Next x)

pub own_next_assign : (line : ℕ) (x : ℕ) (e : UExpr) → own_what line (r.NextAssign x e) ≡ []
unfolding roll-RWhat denote.Hole.Carrier.roll
own_next_assign line x e = at_what line (RWhat-F.NextAssign x e)

pub own_assign_next : (line : ℕ) (x y : ℕ) → own_what line (r.AssignNext x y) ≡ []
unfolding roll-RWhat denote.Hole.Carrier.roll
own_assign_next line x y = at_what line (RWhat-F.AssignNext x y)

pub own_get : (line : ℕ) (x y : ℕ) → own_what line (r.Get x y) ≡ []
unfolding roll-RWhat denote.Hole.Carrier.roll
own_get line x y = at_what line (RWhat-F.Get x y)

pub own_put : (line : ℕ) (x : ℕ) (e : UExpr) → own_what line (r.Put x e) ≡ []
unfolding roll-RWhat denote.Hole.Carrier.roll
own_put line x e = at_what line (RWhat-F.Put x e)

pub own_if : (line : ℕ) (e : UExpr) (first other : List RStmt) → own_what line (r.If e first other) ≡ declares_in first ++ declares_in other
unfolding roll-RWhat denote.Hole.Carrier.roll
own_if line e first other = at_what line (RWhat-F.If e first other)

pub own_while : (line : ℕ) (e : UExpr) (body : List RStmt) → own_what line (r.While e body) ≡ declares_in body
unfolding roll-RWhat denote.Hole.Carrier.roll
own_while line e body = at_what line (RWhat-F.While e body)

pub own_for : (line : ℕ) (first : List RStmt) (test : Option UExpr) (step body : List RStmt) → own_what line (r.For first test step body) ≡ declares_in first ++ (declares_in step ++ declares_in body)
unfolding roll-RWhat denote.Hole.Carrier.roll
own_for line first test step body = at_what line (RWhat-F.For first test step body)

pub own_block : (line : ℕ) (body : List RStmt) → own_what line (r.Block body) ≡ declares_in body
unfolding roll-RWhat denote.Hole.Carrier.roll
own_block line body = at_what line (RWhat-F.RWhat::Block body)

pub own_call : (line : ℕ) (c : RCall) → own_what line (r.Call c) ≡ []
unfolding roll-RWhat denote.Hole.Carrier.roll
own_call line c = at_what line (RWhat-F.RWhat::Call c)

pub own_try : (line : ℕ) (body : List RStmt) (x : ℕ) (y : Option ℕ) (handler : List RStmt) → own_what line (r.Try body x y handler) ≡ declares_in body ++ (some_slot y ++ declares_in handler)
unfolding roll-RWhat denote.Hole.Carrier.roll
own_try line body x y handler = at_what line (RWhat-F.Try body x y handler)

pub own_throw : (line : ℕ) (x : ℕ) (e : Option UExpr) → own_what line (r.Throw x e) ≡ []
unfolding roll-RWhat denote.Hole.Carrier.roll
own_throw line x e = at_what line (RWhat-F.Throw x e)

pub own_par : (line : ℕ) (branches : List RBranch) → own_what line (r.Par branches) ≡ []
unfolding roll-RWhat denote.Hole.Carrier.roll
own_par line branches = at_what line (RWhat-F.Par branches)
