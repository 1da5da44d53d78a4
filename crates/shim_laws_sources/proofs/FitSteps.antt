-- When a statement of a unit of each kind fits, by its parts.
use Rattle.std.proofs.Common.{ℕ, ◌≡◌, Bool, true, ◌&&◌, List, Option}
use Rattle.shim_base.specs.declared.types.Ty.{Ty}
use Rattle.shim_scopes.specs.declared.tree.UExpr.{UExpr}
use Rattle.shim_units.specs.declared.form.Form.{Form}
use Rattle.shim_units.specs.declared.unit.Unit.{Unit as UnitOf}
use Rattle.shim_units.specs.declared.unit.UBranch.{UBranch}
use Rattle.shim_units.specs.declared.unit.UCall.{UCall}
use Rattle.shim_units.specs.declared.unit.UStmt.{UStmt, fold-roll-UStmt}
use Rattle.shim_units.specs.declared.unit.UWhat.{UWhat, UWhat-F, fold-UWhat, fold-roll-UWhat, map-UWhat, roll-UWhat}
use Rattle.shim_units.specs.declared.unit.UWhat.TheVariants as u
use Rattle.shim_process.specs.OwnSlots.{has_arguments, all_suit, is_own_slot, is_own_variable, what_fits, fits, all_fit}

module _ (p : Form) (o : UnitOf) where
  abbrev pub fits_what : UWhat → Bool
  fits_what = fold-UWhat Bool Bool (what_fits p o) (λ s. s.what)

  -- in its line a statement fits as what it does
  pub fits_line : (line : ℕ) (t : UWhat) → fits p o (record { line = line; what = t }) ≡ fits_what t
  fits_line line t = fold-roll-UStmt Bool Bool (what_fits p o) (λ s. s.what) (record { line = line; what = t })

  at_what : (y : UWhat-F UWhat UStmt) → fits_what (roll-UWhat y) ≡ what_fits p o (map-UWhat UWhat UStmt Bool Bool fits_what (fits p o) y)
  at_what y = fold-roll-UWhat Bool Bool (what_fits p o) (λ s. s.what) y

  pub fits_declare : (ty : Ty) (x : ℕ) (e : Option UExpr) → fits_what (u.Declare ty x e) ≡ is_own_slot o x
  unfolding roll-UWhat denote.Hole.Carrier.roll
  fits_declare ty x e = at_what (UWhat-F.Declare ty x e)

  pub fits_assign : (x : ℕ) (e : UExpr) → fits_what (u.Assign x e) ≡ true
  unfolding roll-UWhat denote.Hole.Carrier.roll
  fits_assign x e = at_what (UWhat-F.Assign x e)

  pub fits_next : (x : ℕ) → fits_what (u.Next x) ≡ true
  unfolding roll-UWhat denote.Hole.Carrier.roll
  fits_next x = at_what (UWhat-F.Next x)

  pub fits_next_assign : (x : ℕ) (e : UExpr) → fits_what (u.NextAssign x e) ≡ true
  unfolding roll-UWhat denote.Hole.Carrier.roll
  fits_next_assign x e = at_what (UWhat-F.NextAssign x e)

  pub fits_assign_next : (x y : ℕ) → fits_what (u.AssignNext x y) ≡ true
  unfolding roll-UWhat denote.Hole.Carrier.roll
  fits_assign_next x y = at_what (UWhat-F.AssignNext x y)

  pub fits_get : (x y : ℕ) → fits_what (u.Get x y) ≡ true
  unfolding roll-UWhat denote.Hole.Carrier.roll
  fits_get x y = at_what (UWhat-F.Get x y)

  pub fits_put : (x : ℕ) (e : UExpr) → fits_what (u.Put x e) ≡ true
  unfolding roll-UWhat denote.Hole.Carrier.roll
  fits_put x e = at_what (UWhat-F.Put x e)

  pub fits_if : (e : UExpr) (first other : List UStmt) → fits_what (u.If e first other) ≡ (all_fit p o first && all_fit p o other)
  unfolding roll-UWhat denote.Hole.Carrier.roll
  fits_if e first other = at_what (UWhat-F.If e first other)

  pub fits_while : (e : UExpr) (body : List UStmt) → fits_what (u.While e body) ≡ all_fit p o body
  unfolding roll-UWhat denote.Hole.Carrier.roll
  fits_while e body = at_what (UWhat-F.While e body)

  pub fits_for : (first : List UStmt) (test : Option UExpr) (step body : List UStmt) → fits_what (u.For first test step body) ≡ (all_fit p o first && (all_fit p o step && all_fit p o body))
  unfolding roll-UWhat denote.Hole.Carrier.roll
  fits_for first test step body = at_what (UWhat-F.For first test step body)

  pub fits_block : (body : List UStmt) → fits_what (u.Block body) ≡ all_fit p o body
  unfolding roll-UWhat denote.Hole.Carrier.roll
  fits_block body = at_what (UWhat-F.Block body)

  pub fits_call : (c : UCall) → fits_what (u.Call c) ≡ has_arguments p c
  unfolding roll-UWhat denote.Hole.Carrier.roll
  fits_call c = at_what (UWhat-F.Call c)

  pub fits_try : (body : List UStmt) (x : ℕ) (y : Option ℕ) (handler : List UStmt) → fits_what (u.Try body x y handler) ≡ (all_fit p o body && (is_own_variable o y && all_fit p o handler))
  unfolding roll-UWhat denote.Hole.Carrier.roll
  fits_try body x y handler = at_what (UWhat-F.Try body x y handler)

  pub fits_throw : (x : ℕ) (e : Option UExpr) → fits_what (u.Throw x e) ≡ true
  unfolding roll-UWhat denote.Hole.Carrier.roll
  fits_throw x e = at_what (UWhat-F.Throw x e)

  pub fits_par : (branches : List UBranch) → fits_what (u.Par branches) ≡ all_suit p branches
  unfolding roll-UWhat denote.Hole.Carrier.roll
  fits_par branches = at_what (UWhat-F.Par branches)
