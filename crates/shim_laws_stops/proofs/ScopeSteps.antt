-- What a statement of a unit of each kind names and declares, by its parts.
use Rattle.std.proofs.Common.{ℕ, ◌≡◌, ◌&&◌, List, [], ◌∷◌, ◌++◌, Option, map}
use Rattle.shim_base.specs.declared.types.Ty.{Ty}
use Rattle.shim_scopes.specs.declared.tree.UExpr.{UExpr}
use Rattle.shim_units.specs.declared.form.Form.{Form}
use Rattle.shim_units.specs.declared.unit.Unit.{Unit as UnitOf}
use Rattle.shim_units.specs.declared.unit.UBranch.{UBranch}
use Rattle.shim_units.specs.declared.unit.UCall.{UCall}
use Rattle.shim_units.specs.declared.unit.UStmt.{UStmt, fold-roll-UStmt}
use Rattle.shim_units.specs.declared.unit.UWhat.{UWhat, UWhat-F, fold-UWhat, fold-roll-UWhat, map-UWhat, roll-UWhat}
use Rattle.shim_units.specs.declared.unit.UWhat.TheVariants as u
use Rattle.shim_units.specs.Own.{some_slot}
use Rattle.shim_laws_stops.specs.InScope.{Scoped, declares_none, has_number, has_input, has_output, reads_right, option_right, call_right, all_calls_right, branches_apart, are_some, all_declare, what_scoped, scoped, all_scoped}

module _ (p : Form) (o : UnitOf) where
  abbrev pub what_in : UWhat → Scoped
  what_in = fold-UWhat Scoped Scoped (what_scoped p o) (λ s. s.what)

  -- the slots that statements put into the scope of what follows them
  abbrev pub declared_in : List UStmt → List ℕ
  declared_in ss = all_declare (map (scoped p o) ss)

  -- some statements
  abbrev pub all_in : List UStmt → Scoped
  all_in ss = record { right = all_scoped p o ss; declares = declared_in ss }

  -- in its line a statement names what it does
  pub in_line : (line : ℕ) (t : UWhat) → scoped p o (record { line = line; what = t }) ≡ what_in t
  in_line line t = fold-roll-UStmt Scoped Scoped (what_scoped p o) (λ s. s.what) (record { line = line; what = t })

  pub at_what : (y : UWhat-F UWhat UStmt) → what_in (roll-UWhat y) ≡ what_scoped p o (map-UWhat UWhat UStmt Scoped Scoped what_in (scoped p o) y)
  at_what y = fold-roll-UWhat Scoped Scoped (what_scoped p o) (λ s. s.what) y

  pub in_declare : (ty : Ty) (x : ℕ) (e : Option UExpr) → what_in (u.Declare ty x e) ≡ record { right = λ xs. option_right o xs e; declares = x ∷ [] }
  unfolding roll-UWhat denote.Hole.Carrier.roll
  in_declare ty x e = at_what (UWhat-F.Declare ty x e)

  pub in_assign : (x : ℕ) (e : UExpr) → what_in (u.Assign x e) ≡ declares_none (λ xs. has_number o xs x && reads_right o xs e)
  unfolding roll-UWhat denote.Hole.Carrier.roll
  in_assign x e = at_what (UWhat-F.Assign x e)

  pub in_next : (x : ℕ) → what_in (u.Next x) ≡ declares_none (λ xs. has_number o xs x)
  unfolding roll-UWhat denote.Hole.Carrier.roll
  in_next x = at_what (UWhat-F.Next x)

  pub in_next_assign : (x : ℕ) (e : UExpr) → what_in (u.NextAssign x e) ≡ declares_none (λ xs. has_number o xs x && reads_right o xs e)
  unfolding roll-UWhat denote.Hole.Carrier.roll
  in_next_assign x e = at_what (UWhat-F.NextAssign x e)

  pub in_assign_next : (x y : ℕ) → what_in (u.AssignNext x y) ≡ declares_none (λ xs. has_number o xs x && has_number o xs y)
  unfolding roll-UWhat denote.Hole.Carrier.roll
  in_assign_next x y = at_what (UWhat-F.AssignNext x y)

  pub in_get : (x y : ℕ) → what_in (u.Get x y) ≡ declares_none (λ xs. has_number o xs x && has_input o xs y)
  unfolding roll-UWhat denote.Hole.Carrier.roll
  in_get x y = at_what (UWhat-F.Get x y)

  pub in_put : (x : ℕ) (e : UExpr) → what_in (u.Put x e) ≡ declares_none (λ xs. has_output o xs x && reads_right o xs e)
  unfolding roll-UWhat denote.Hole.Carrier.roll
  in_put x e = at_what (UWhat-F.Put x e)

  pub in_if : (e : UExpr) (first other : List UStmt) → what_in (u.If e first other) ≡ declares_none (λ xs. reads_right o xs e && (all_scoped p o first xs && all_scoped p o other xs))
  unfolding roll-UWhat denote.Hole.Carrier.roll
  in_if e first other = at_what (UWhat-F.If e first other)

  pub in_while : (e : UExpr) (body : List UStmt) → what_in (u.While e body) ≡ declares_none (λ xs. reads_right o xs e && all_scoped p o body xs)
  unfolding roll-UWhat denote.Hole.Carrier.roll
  in_while e body = at_what (UWhat-F.While e body)

  pub in_for : (first : List UStmt) (test : Option UExpr) (step body : List UStmt) → what_in (u.For first test step body)
      ≡ declares_none (λ xs. all_scoped p o first xs && (option_right o (declared_in first ++ xs) test && (all_scoped p o step (declared_in first ++ xs) && all_scoped p o body (declared_in first ++ xs))))
  unfolding roll-UWhat denote.Hole.Carrier.roll
  in_for first test step body = at_what (UWhat-F.For first test step body)

  pub in_block : (body : List UStmt) → what_in (u.Block body) ≡ declares_none (λ xs. all_scoped p o body xs)
  unfolding roll-UWhat denote.Hole.Carrier.roll
  in_block body = at_what (UWhat-F.Block body)

  pub in_call : (c : UCall) → what_in (u.Call c) ≡ declares_none (λ xs. call_right p o xs c)
  unfolding roll-UWhat denote.Hole.Carrier.roll
  in_call c = at_what (UWhat-F.Call c)

  pub in_try : (body : List UStmt) (x : ℕ) (y : Option ℕ) (handler : List UStmt) → what_in (u.Try body x y handler) ≡ declares_none (λ xs. all_scoped p o body xs && all_scoped p o handler (some_slot y ++ xs))
  unfolding roll-UWhat denote.Hole.Carrier.roll
  in_try body x y handler = at_what (UWhat-F.Try body x y handler)

  pub in_throw : (x : ℕ) (e : Option UExpr) → what_in (u.Throw x e) ≡ declares_none (λ xs. option_right o xs e)
  unfolding roll-UWhat denote.Hole.Carrier.roll
  in_throw x e = at_what (UWhat-F.Throw x e)

  pub in_par : (branches : List UBranch) → what_in (u.Par branches) ≡ declares_none (λ xs. are_some branches && (branches_apart branches && all_calls_right p o xs branches))
  unfolding roll-UWhat denote.Hole.Carrier.roll
  in_par branches = at_what (UWhat-F.Par branches)
