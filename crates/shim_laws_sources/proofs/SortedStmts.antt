-- The declarations in statements of each kind have their sorts, by those in their blocks.
use Rattle.std.proofs.Common.{◌≡◌, ℕ, List, [], ◌∷◌, ◌++◌, Option, Some, None, slice_get, sym, subst}
use Rattle.shim_base.specs.declared.types.Ty.{Ty}
use Rattle.shim_base.specs.declared.types.Ty.TheVariants.{Int32}
use Rattle.shim_syntax.specs.declared.tree.Sort.{Sort}
use Rattle.shim_syntax.specs.declared.tree.Sort.TheVariants.{Value}
use Rattle.shim_scopes.specs.declared.tree.UExpr.{UExpr}
use Rattle.shim_units.specs.declared.unit.Unit.{Unit as UnitOf}
use Rattle.shim_units.specs.declared.unit.UBranch.{UBranch}
use Rattle.shim_units.specs.declared.unit.UCall.{UCall}
use Rattle.shim_units.specs.declared.unit.UStmt.{UStmt}
use Rattle.shim_units.specs.declared.unit.UWhat.{UWhat, UWhat-F, out-UWhat, roll-UWhat, out-roll-UWhat}
use Rattle.shim_units.specs.declared.unit.UWhat.TheVariants as u
use Rattle.shim_laws_sources.specs.DeclaredSorts.{inner, StandsIn, first, later, inside, HasItsSort}

-- each declaration among these statements, and inside them, has its sort
abbrev pub AreSorted : List Sort → List UStmt → Type 0
AreSorted slots ss = (s : UStmt) → StandsIn s ss → HasItsSort slots (out-UWhat s.what)

-- what a statement does: its own declaration has its sort, and so have those in its blocks
abbrev pub WhatIsSorted : List Sort → UWhat → Type 0
WhatIsSorted slots t = HasItsSort slots (out-UWhat t) × AreSorted slots (inner (out-UWhat t))

abbrev pub IsSorted : List Sort → UStmt → Type 0
IsSorted slots s = WhatIsSorted slots s.what

-- and so is the slot of a handler's variable
abbrev pub VariableIsSorted : List Sort → Option ℕ → Type 0
VariableIsSorted slots None = Unit {0}
VariableIsSorted slots (Some x) = slice_get slots x ≡ Some (Value Int32)

-- each declaration of a unit has its sort among the unit's slots
abbrev pub UnitIsSorted : UnitOf → Type 0
UnitIsSorted o = AreSorted o.slots o.body

pub none_sorted : (slots : List Sort) → AreSorted slots []
none_sorted slots s h = elim h [ ]

pub more_sorted : (slots : List Sort) (t : UStmt) (ts : List UStmt) → IsSorted slots t → AreSorted slots ts → AreSorted slots (t ∷ ts)
more_sorted slots t ts one rest s (first ss) = one.0
more_sorted slots t ts one rest s (later v ss h) = rest s h
more_sorted slots t ts one rest s (inside v ss h) = one.1 s h

pub both_sorted : (slots : List Sort) (a b : List UStmt) → AreSorted slots a → AreSorted slots b → AreSorted slots (a ++ b)
both_sorted slots [] b h k = k
both_sorted slots (t ∷ a) b h k = more_sorted slots t (a ++ b) (h t (first a), λ s i. h s (inside t a i)) (both_sorted slots a b (λ s i. h s (later t a i)) k)

module _ (slots : List Sort) where
  rolled : (y : UWhat-F UWhat UStmt) → HasItsSort slots y → AreSorted slots (inner y) → WhatIsSorted slots (roll-UWhat y)
  rolled y h k = subst (λ z. HasItsSort slots z × AreSorted slots (inner z)) (sym (out-roll-UWhat y)) (h, k)

  pub sorted_declare : (ty : Ty) (x : ℕ) (e : Option UExpr) → slice_get slots x ≡ Some (Value ty) → WhatIsSorted slots (u.Declare ty x e)
  unfolding roll-UWhat denote.Hole.Carrier.roll
  sorted_declare ty x e h = rolled (UWhat-F.Declare ty x e) h (none_sorted slots)

  pub sorted_assign : (x : ℕ) (e : UExpr) → WhatIsSorted slots (u.Assign x e)
  unfolding roll-UWhat denote.Hole.Carrier.roll
  sorted_assign x e = rolled (UWhat-F.Assign x e) tt (none_sorted slots)

  pub sorted_next : (x : ℕ) → WhatIsSorted slots (u.Next x)
  unfolding roll-UWhat denote.Hole.Carrier.roll
  sorted_next x = rolled (UWhat-F.Next x) tt (none_sorted slots)

  pub sorted_next_assign : (x : ℕ) (e : UExpr) → WhatIsSorted slots (u.NextAssign x e)
  unfolding roll-UWhat denote.Hole.Carrier.roll
  sorted_next_assign x e = rolled (UWhat-F.NextAssign x e) tt (none_sorted slots)

  pub sorted_assign_next : (x y : ℕ) → WhatIsSorted slots (u.AssignNext x y)
  unfolding roll-UWhat denote.Hole.Carrier.roll
  sorted_assign_next x y = rolled (UWhat-F.AssignNext x y) tt (none_sorted slots)

  pub sorted_get : (x y : ℕ) → WhatIsSorted slots (u.Get x y)
  unfolding roll-UWhat denote.Hole.Carrier.roll
  sorted_get x y = rolled (UWhat-F.Get x y) tt (none_sorted slots)

  pub sorted_put : (x : ℕ) (e : UExpr) → WhatIsSorted slots (u.Put x e)
  unfolding roll-UWhat denote.Hole.Carrier.roll
  sorted_put x e = rolled (UWhat-F.Put x e) tt (none_sorted slots)

  pub sorted_if : (e : UExpr) (a b : List UStmt) → AreSorted slots a → AreSorted slots b → WhatIsSorted slots (u.If e a b)
  unfolding roll-UWhat denote.Hole.Carrier.roll
  sorted_if e a b h k = rolled (UWhat-F.If e a b) tt (both_sorted slots a b h k)

  pub sorted_while : (e : UExpr) (body : List UStmt) → AreSorted slots body → WhatIsSorted slots (u.While e body)
  unfolding roll-UWhat denote.Hole.Carrier.roll
  sorted_while e body h = rolled (UWhat-F.While e body) tt h

  pub sorted_for : (a : List UStmt) (test : Option UExpr) (b c : List UStmt) → AreSorted slots a → AreSorted slots b → AreSorted slots c → WhatIsSorted slots (u.For a test b c)
  unfolding roll-UWhat denote.Hole.Carrier.roll
  sorted_for a test b c h k l = rolled (UWhat-F.For a test b c) tt (both_sorted slots a (b ++ c) h (both_sorted slots b c k l))

  pub sorted_block : (body : List UStmt) → AreSorted slots body → WhatIsSorted slots (u.Block body)
  unfolding roll-UWhat denote.Hole.Carrier.roll
  sorted_block body h = rolled (UWhat-F.Block body) tt h

  pub sorted_call : (c : UCall) → WhatIsSorted slots (u.Call c)
  unfolding roll-UWhat denote.Hole.Carrier.roll
  sorted_call c = rolled (UWhat-F.Call c) tt (none_sorted slots)

  try_sort : (a : List UStmt) (x : ℕ) (y : Option ℕ) (b : List UStmt) → VariableIsSorted slots y → HasItsSort slots (UWhat-F.Try a x y b)
  try_sort a x None b h = tt
  try_sort a x (Some y) b h = h

  pub sorted_try : (a : List UStmt) (x : ℕ) (y : Option ℕ) (b : List UStmt) → AreSorted slots a → VariableIsSorted slots y → AreSorted slots b → WhatIsSorted slots (u.Try a x y b)
  unfolding roll-UWhat denote.Hole.Carrier.roll
  sorted_try a x y b h v k = rolled (UWhat-F.Try a x y b) (try_sort a x y b v) (both_sorted slots a b h k)

  pub sorted_throw : (x : ℕ) (e : Option UExpr) → WhatIsSorted slots (u.Throw x e)
  unfolding roll-UWhat denote.Hole.Carrier.roll
  sorted_throw x e = rolled (UWhat-F.Throw x e) tt (none_sorted slots)

  pub sorted_par : (branches : List UBranch) → WhatIsSorted slots (u.Par branches)
  unfolding roll-UWhat denote.Hole.Carrier.roll
  sorted_par branches = rolled (UWhat-F.Par branches) tt (none_sorted slots)
