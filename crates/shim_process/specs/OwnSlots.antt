-- What binding gives the units of a program: their declarations are of slots of their own, and their calls and branches have an argument for each parameter.
use Rattle.std.specs.Prelude.{◌≡◌, ℕ, nat_eq, nat_le, nat_lt, Bool, true, ◌&&◌, List, [], ◌∷◌, length, map, Option, Some, None}
use Rattle.shim_units.specs.declared.form.Form.{Form}
use Rattle.shim_units.specs.declared.unit.Unit.{Unit as UnitOf}
use Rattle.shim_units.specs.declared.unit.UBranch.{UBranch}
use Rattle.shim_units.specs.declared.unit.UCall.{UCall}
use Rattle.shim_units.specs.declared.unit.UStmt.{UStmt, fold-UStmt}
use Rattle.shim_units.specs.declared.unit.UWhat.{UWhat-F}
use Rattle.shim_process.specs.LocalState.{unit_at}

-- the call has an argument for each parameter of its unit
abbrev pub has_arguments : Form → UCall → Bool
has_arguments program c = nat_eq (length c.args) (length (unit_at program c.unit).params)

-- the call of each branch has an argument for each parameter of its unit
abbrev pub all_suit : Form → List UBranch → Bool
all_suit program [] = true
all_suit program (b ∷ branches) = has_arguments program b.call && all_suit program branches

-- the slot is one of the unit's own, which come after those of its parameters
abbrev pub is_own_slot : UnitOf → ℕ → Bool
is_own_slot u x = nat_le (length u.params) x && nat_lt x (length u.slots)

-- the slot of a handler's variable is one of the unit's own, or the handler has no variable
abbrev pub is_own_variable : UnitOf → Option ℕ → Bool
is_own_variable u None = true
is_own_variable u (Some x) = is_own_slot u x

abbrev all_true : List Bool → Bool
all_true [] = true
all_true (b ∷ bs) = b && all_true bs

-- whether a statement fits the unit, from the answers for the statements inside it
abbrev pub what_fits : Form → UnitOf → UWhat-F Bool Bool → Bool
what_fits program u (UWhat-F.Declare t x e) = is_own_slot u x
what_fits program u (UWhat-F.If e first second) = all_true first && all_true second
what_fits program u (UWhat-F.While e body) = all_true body
what_fits program u (UWhat-F.For first test step body) = all_true first && (all_true step && all_true body)
what_fits program u (UWhat-F.Block body) = all_true body
what_fits program u (UWhat-F.Call c) = has_arguments program c
what_fits program u (UWhat-F.Try body x y handler) = all_true body && (is_own_variable u y && all_true handler)
what_fits program u (UWhat-F.Par branches) = all_suit program branches
what_fits _ _ _ = true

-- a statement declares own slots of the unit alone, and its calls and branches have an argument for each parameter
abbrev pub fits : Form → UnitOf → UStmt → Bool
fits program u = fold-UStmt Bool Bool (what_fits program u) (λ s. s.what)

-- each of the statements fits the unit
abbrev pub all_fit : Form → UnitOf → List UStmt → Bool
all_fit program u ss = all_true (map (fits program u) ss)

-- All statements of all units fit their units. A unit that declared the slot of a parameter by reference would put another channel in the place of its caller's variable, of which a copy may stand beside it.
abbrev pub UsesOwnSlots : Form → Type 0
UsesOwnSlots program = (n : ℕ) → all_fit program (unit_at program n) (unit_at program n).body ≡ true
