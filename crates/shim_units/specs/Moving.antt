-- Expressions and calls with a unit's own numbers of variables and exceptions.
use Rattle.std.specs.Prelude.{ℕ, List, [], ◌∷◌, Option, Some, None, Bool, true, false, length, map, nat_eq, position}
use Rattle.shim_scopes.specs.declared.tree.UExpr.{UExpr, fold-UExpr, UExpr-F}
use Rattle.shim_scopes.specs.declared.tree.UExpr.TheVariants.{Number, Var, Unary, Binary}
use Rattle.shim_scopes.specs.declared.tree.UParam.{UParam}
use Rattle.shim_scopes.specs.declared.tree.RCall.{RCall}
use Rattle.shim_scopes.specs.declared.tree.RFunction.{RFunction}
use Rattle.shim_units.specs.declared.unit.Arg.{Arg}
use Rattle.shim_units.specs.declared.unit.Arg.TheVariants.{Ref, Pass, Fresh}
use Rattle.shim_units.specs.declared.unit.UCall.{UCall}
use Rattle.shim_units.specs.Calls.{bare, lends_first, behind_first, params_at}
use Rattle.shim_units.specs.declared.slot_map.SlotMap.{SlotMap}

-- the position, and n where there is none
abbrev pub position_else : ℕ → Option ℕ → ℕ
position_else n None = n
position_else n (Some at) = at

-- the place of the function's number x among the numbers that a unit has; their count if x isn't among them
unfoldable pub slot_index_of : List ℕ → ℕ → ℕ
slot_index_of all x = position_else (length all) (position (λ y. nat_eq y x) all)

-- the place of the slot of a handler's variable, if the handler has a variable
abbrev pub slot_index_of_option : List ℕ → Option ℕ → Option ℕ
slot_index_of_option all None = None
slot_index_of_option all (Some x) = Some (slot_index_of all x)

abbrev pub slot_indices_of : List ℕ → List ℕ → List ℕ
slot_indices_of all xs = map (slot_index_of all) xs

-- an expression over a unit's slots, given its operands over them
abbrev pub moved_step : List ℕ → UExpr-F UExpr → UExpr
moved_step slots (UExpr-F.Number n) = Number n
moved_step slots (UExpr-F.Var x) = Var (slot_index_of slots x)
moved_step slots (UExpr-F.Unary op a) = Unary op a
moved_step slots (UExpr-F.Binary op a b) = Binary op a b

-- an expression over a unit's slots
unfoldable pub renumbered : List ℕ → UExpr → UExpr
renumbered slots = fold-UExpr UExpr (moved_step slots)

-- an expression over a unit's slots, where there is one
abbrev pub moved_option : List ℕ → Option UExpr → Option UExpr
moved_option slots None = None
moved_option slots (Some e) = Some (renumbered slots e)

-- the variable x as an argument, by reference where the truth value is `true`, and else by value
abbrev pub by_mode : Bool → ℕ → Arg
by_mode true x = Ref x
by_mode false x = Pass x

-- The argument as a unit has it: a bare variable by the unit's slot, and by reference if it is lent. Any other argument is an expression over the unit's slots.
abbrev pub arg_of : List ℕ → Bool → Option ℕ → UExpr → Arg
arg_of slots lent None e = Fresh (renumbered slots e)
arg_of slots lent (Some x) e = by_mode lent (slot_index_of slots x)

-- a bare variable goes by reference or by value as its parameter has it, and anything else is computed
abbrev pub args_of : List ℕ → List UParam → List UExpr → List Arg
args_of slots ps [] = []
args_of slots ps (e ∷ es) = arg_of slots (lends_first ps) (bare e) e ∷ args_of slots (behind_first ps) es

-- a call of a function in a unit
abbrev pub moved_call : List RFunction → RCall → SlotMap → UCall
moved_call fs c w = record {
  unit = c.function;
  args = args_of w.slots (params_at fs c.function) c.args;
  throws = slot_indices_of w.exceptions c.throws;
}
