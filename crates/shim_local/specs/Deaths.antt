-- How a process died, and which of two deaths prevails where a fork closes.
use Rattle.std.specs.Prelude.{ℕ, ℤ, pos, Option, Some, None, cond, ltb, min, unwrap_or}
use Rattle.std.specs.Option.{option_or}
use Rattle.shim_local.specs.declared.death.Death.{Death}

-- the death of this label without a number, which a poisoned process dies
abbrev pub death : ℕ → Death
death x = record { label = x; given = None }

-- the death of this label with this number: of a throw the number thrown, of a trap 0
abbrev pub death_with : ℕ → ℤ → Death
death_with x v = record { label = x; given = Some v }

-- the number that a handler is given: 0 where the death has none
abbrev pub handed : Option ℤ → ℤ
handed given = unwrap_or given (pos 0)

-- The number of the death with the lesser label. If the labels are equal, it is the first death's number, or the second's if the first has none.
abbrev pub outermost_given : Death → Death → Option ℤ
outermost_given d e = cond (ltb d.label e.label) d.given (cond (ltb e.label d.label) e.given (option_or d.given e.given))

-- of two deaths the outermost exception prevails, whose label is the lesser one
abbrev pub outermost : Death → Death → Death
outermost d e = record { label = min d.label e.label; given = outermost_given d e }
