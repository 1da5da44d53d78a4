-- A function's own unit, and the units that are lifted out of it.
use Rattle.std.proofs.Common.{ℕ, suc, ◌+◌, ◌≤◌, List, length, arith}
use Rattle.shim_scopes.specs.declared.tree.RFunction.{RFunction}
use Rattle.shim_units.specs.Parts.{LiftContext}
use Rattle.shim_units.specs.Sizes.{function_size, units_points}
use Rattle.shim_units.specs.Numbering.{size_all}
use Rattle.shim_units.specs.Units.{name_or_mark, function_slot_map, lift_function}
use Rattle.shim_sharing.proofs.LiftedSizes.{body_within}

module _ (names : List (List ℕ)) (all : List RFunction) where
  abbrev context_of : ℕ → ℕ → RFunction → LiftContext
  context_of number next f = record { functions = all; function = f; number = number; name = name_or_mark names f.name; first = next }

  -- a function and what is lifted out of it
  pub function_points : (number next : ℕ) (f : RFunction)
      → suc (size_all (lift_function names all number next f).own.body + units_points (lift_function names all number next f).lifted + length (lift_function names all number next f).lifted) ≤ function_size f
  function_points number next f = omega (arith, (body_within f.body).lifts.points (context_of number next f) (function_slot_map f) next)
