-- The numbers of a unit's variables and exceptions fit 32 bits, and the numbers of the units fit them, too, with all that is still to be lifted.
use Rattle.std.specs.Prelude.{ℕ, ◌+◌, ◌<◌, ◌^◌, List, length}
use Rattle.shim_scopes.specs.declared.tree.RFunction.{RFunction}
use Rattle.shim_units.specs.declared.slot_map.SlotMap.{SlotMap}
use Rattle.shim_units.specs.Sizes.{Extent, function_size, functions_size}

-- The count of a unit's slots plus the size of what a part's outermost forks hold is below 2 ^ 32. The count of the unit's exceptions plus that size is below it, too, and so is `next` plus the size of the part.
pub record HasRoomToLift (w : SlotMap) (next : ℕ) (e : Extent) : Type 0 where
  pub slots : length w.slots + e.inside < 2 ^ 32
  pub exceptions : length w.exceptions + e.inside < 2 ^ 32
  pub units : next + e.size < 2 ^ 32

-- `next` and the size of the function add up to less than 2 ^ 32
pub record FunctionHasRoom (next : ℕ) (f : RFunction) : Type 0 where
  pub fits : next + function_size f < 2 ^ 32

-- `next` and the size of these functions add up to less than 2^32
pub record FunctionsHaveRoom (next : ℕ) (fs : List RFunction) : Type 0 where
  pub fits : next + functions_size fs < 2 ^ 32
