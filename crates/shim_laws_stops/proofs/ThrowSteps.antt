-- What a statement of a unit of each kind throws and hands on, by its parts.
use Rattle.std.proofs.Common.{ℕ, ◌≡◌, true, ◌&&◌, List, ◌∷◌, Option, ap}
use Rattle.shim_base.specs.declared.types.Ty.{Ty}
use Rattle.shim_scopes.specs.declared.tree.UExpr.{UExpr}
use Rattle.shim_units.specs.declared.form.Form.{Form}
use Rattle.shim_units.specs.declared.unit.UBranch.{UBranch}
use Rattle.shim_units.specs.declared.unit.UCall.{UCall}
use Rattle.shim_units.specs.declared.unit.UStmt.{UStmt, fold-roll-UStmt}
use Rattle.shim_units.specs.declared.unit.UWhat.{UWhat, UWhat-F, fold-UWhat, fold-roll-UWhat, map-UWhat, roll-UWhat}
use Rattle.shim_units.specs.declared.unit.UWhat.TheVariants as u
use Rattle.shim_units.specs.Lifting.{is_among}
use Rattle.shim_laws_stops.specs.InForce.{InForce, hands_on, all_hand_on, what_throws, throws, all_throw}

module _ (p : Form) where
  abbrev pub throws_what : UWhat → InForce
  throws_what = fold-UWhat InForce InForce (what_throws p) (λ s. s.what)

  -- in its line a statement throws what it does
  pub throws_line : (line : ℕ) (t : UWhat) (xs : List ℕ) → throws p (record { line = line; what = t }) xs ≡ throws_what t xs
  throws_line line t xs = ap (λ (f : InForce). f xs) (fold-roll-UStmt InForce InForce (what_throws p) (λ s. s.what) (record { line = line; what = t }))

  pub at_what : (y : UWhat-F UWhat UStmt) (xs : List ℕ) → throws_what (roll-UWhat y) xs ≡ what_throws p (map-UWhat UWhat UStmt InForce InForce throws_what (throws p) y) xs
  at_what y xs = ap (λ (f : InForce). f xs) (fold-roll-UWhat InForce InForce (what_throws p) (λ s. s.what) y)

  pub throws_declare : (ty : Ty) (x : ℕ) (e : Option UExpr) (xs : List ℕ) → throws_what (u.Declare ty x e) xs ≡ true
  unfolding roll-UWhat denote.Hole.Carrier.roll
  throws_declare ty x e xs = at_what (UWhat-F.Declare ty x e) xs

  pub throws_assign : (x : ℕ) (e : UExpr) (xs : List ℕ) → throws_what (u.Assign x e) xs ≡ true
  unfolding roll-UWhat denote.Hole.Carrier.roll
  throws_assign x e xs = at_what (UWhat-F.Assign x e) xs

  pub throws_next : (x : ℕ) (xs : List ℕ) → throws_what (u.Next x) xs ≡ true
  unfolding roll-UWhat denote.Hole.Carrier.roll
  throws_next x xs = at_what (UWhat-F.Next x) xs

  pub throws_next_assign : (x : ℕ) (e : UExpr) (xs : List ℕ) → throws_what (u.NextAssign x e) xs ≡ true
  unfolding roll-UWhat denote.Hole.Carrier.roll
  throws_next_assign x e xs = at_what (UWhat-F.NextAssign x e) xs

  pub throws_assign_next : (x y : ℕ) (xs : List ℕ) → throws_what (u.AssignNext x y) xs ≡ true
  unfolding roll-UWhat denote.Hole.Carrier.roll
  throws_assign_next x y xs = at_what (UWhat-F.AssignNext x y) xs

  pub throws_get : (x y : ℕ) (xs : List ℕ) → throws_what (u.Get x y) xs ≡ true
  unfolding roll-UWhat denote.Hole.Carrier.roll
  throws_get x y xs = at_what (UWhat-F.Get x y) xs

  pub throws_put : (x : ℕ) (e : UExpr) (xs : List ℕ) → throws_what (u.Put x e) xs ≡ true
  unfolding roll-UWhat denote.Hole.Carrier.roll
  throws_put x e xs = at_what (UWhat-F.Put x e) xs

  pub throws_if : (e : UExpr) (first other : List UStmt) (xs : List ℕ) → throws_what (u.If e first other) xs ≡ (all_throw p first xs && all_throw p other xs)
  unfolding roll-UWhat denote.Hole.Carrier.roll
  throws_if e first other xs = at_what (UWhat-F.If e first other) xs

  pub throws_while : (e : UExpr) (body : List UStmt) (xs : List ℕ) → throws_what (u.While e body) xs ≡ all_throw p body xs
  unfolding roll-UWhat denote.Hole.Carrier.roll
  throws_while e body xs = at_what (UWhat-F.While e body) xs

  pub throws_for : (first : List UStmt) (test : Option UExpr) (step body : List UStmt) (xs : List ℕ) → throws_what (u.For first test step body) xs ≡ (all_throw p first xs && (all_throw p step xs && all_throw p body xs))
  unfolding roll-UWhat denote.Hole.Carrier.roll
  throws_for first test step body xs = at_what (UWhat-F.For first test step body) xs

  pub throws_block : (body : List UStmt) (xs : List ℕ) → throws_what (u.Block body) xs ≡ all_throw p body xs
  unfolding roll-UWhat denote.Hole.Carrier.roll
  throws_block body xs = at_what (UWhat-F.Block body) xs

  pub throws_call : (c : UCall) (xs : List ℕ) → throws_what (u.Call c) xs ≡ hands_on p c xs
  unfolding roll-UWhat denote.Hole.Carrier.roll
  throws_call c xs = at_what (UWhat-F.Call c) xs

  pub throws_try : (body : List UStmt) (x : ℕ) (y : Option ℕ) (handler : List UStmt) (xs : List ℕ) → throws_what (u.Try body x y handler) xs ≡ (all_throw p body (x ∷ xs) && all_throw p handler xs)
  unfolding roll-UWhat denote.Hole.Carrier.roll
  throws_try body x y handler xs = at_what (UWhat-F.Try body x y handler) xs

  pub throws_throw : (x : ℕ) (e : Option UExpr) (xs : List ℕ) → throws_what (u.Throw x e) xs ≡ is_among xs x
  unfolding roll-UWhat denote.Hole.Carrier.roll
  throws_throw x e xs = at_what (UWhat-F.Throw x e) xs

  pub throws_par : (branches : List UBranch) (xs : List ℕ) → throws_what (u.Par branches) xs ≡ all_hand_on p branches xs
  unfolding roll-UWhat denote.Hole.Carrier.roll
  throws_par branches xs = at_what (UWhat-F.Par branches) xs
