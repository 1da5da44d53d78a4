-- The code's `LiftContext` as the `LiftContext` of the definitions.
use Rattle.shim_units.specs.Parts as parts
use Rattle.shim_units.specs.declared.lift_context.LiftContext.{LiftContext}

abbrev pub lift_context_view : LiftContext → parts.LiftContext
lift_context_view h = record { functions = h.functions.now; function = h.function.now; number = h.number; name = h.name.now; first = h.first }
