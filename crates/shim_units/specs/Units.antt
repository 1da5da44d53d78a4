-- A whole program as units.
use Rattle.std.specs.Prelude.{ℕ, ◌+◌, zero, suc, List, [], ◌∷◌, ◌++◌, Option, Some, None, length, slice_get, codes}
use Rattle.shim_scopes.specs.declared.tree.RFunction.{RFunction}
use Rattle.shim_scopes.specs.declared.form.Form.{Form as Resolved}
use Rattle.shim_units.specs.declared.form.Form.{Form}
use Rattle.shim_units.specs.declared.unit.Unit.{Unit as UnitOf}
use Rattle.shim_units.specs.declared.slot_map.SlotMap.{SlotMap}
use Rattle.shim_units.specs.Parts.{LiftContext}
use Rattle.shim_units.specs.Lifting.{branch_slot_map, made_unit}
use Rattle.shim_units.specs.PartFold.{declares_in, tries_in, lift_in}

-- the text, and a question mark where there is none
abbrev pub text_or_mark : Option (List ℕ) → List ℕ
text_or_mark None = codes "?"
text_or_mark (Some text) = text

-- the name of that number, and a question mark where the list has none
abbrev pub name_or_mark : List (List ℕ) → ℕ → List ℕ
name_or_mark names n = text_or_mark (slice_get names n)

-- the numbers below n, in ascending order
abbrev pub upto : ℕ → List ℕ
upto zero = []
upto (suc n) = upto n ++ n ∷ []

-- what a function's own unit has: its parameters and `throws`, and then what its text has of its own
abbrev pub function_slot_map : RFunction → SlotMap
function_slot_map f = branch_slot_map (upto (length f.params)) (declares_in f.body) (upto (length f.throws)) (tries_in f.body)

-- a function's own unit, and those that are lifted out of it
pub record LiftedFunction : Type 0 where
  pub own : UnitOf
  pub lifted : List UnitOf

-- A function as a unit, with the units that are lifted out of it. The function has that number. The first of the lifted units, if there is one, has the number `next`.
abbrev pub lift_function : List (List ℕ) → List RFunction → ℕ → ℕ → RFunction → LiftedFunction
lift_function names all number next f =
    let context : LiftContext = record { functions = all; function = f; number = number; name = name_or_mark names f.name; first = next } in
    let w = function_slot_map f in
    let r = lift_in f.body context w next in
    record { own = made_unit context context.name f.params (length f.throws) w (tries_in f.body) r.tree; lifted = r.units }

-- the functions' own units, and all units that are lifted out of the functions
pub record LiftedFunctions : Type 0 where
  pub own : List UnitOf
  pub lifted : List UnitOf

-- The units of the functions of the last list. The first of them has that number, and the first unit that is lifted out of them has the number `next`.
abbrev pub lift_functions : List (List ℕ) → List RFunction → ℕ → ℕ → List RFunction → LiftedFunctions
lift_functions names all number next [] = record { own = []; lifted = [] }
lift_functions names all number next (f ∷ fs) =
    let r = lift_function names all number next f in
    let rest = lift_functions names all (number + 1) (next + length r.lifted) fs in
    record { own = r.own ∷ rest.own; lifted = r.lifted ++ rest.lifted }

-- the exceptions in the `throws` of a function, and none where there is no function
abbrev pub throws_of : Option RFunction → List ℕ
throws_of None = []
throws_of (Some f) = f.throws

-- the units of a program
abbrev pub lifted : Resolved → Form
lifted p =
    let r = lift_functions p.names p.functions 0 (length p.functions) p.functions in
    record { units = r.own ++ r.lifted; names = p.names; main = p.main; main_throws = throws_of (slice_get p.functions p.main) }
