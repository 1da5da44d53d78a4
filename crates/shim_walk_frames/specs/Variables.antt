-- How many variables of handlers are in force.
use Rattle.std.specs.Prelude.{ℕ, ◌+◌, List, [], ◌∷◌, Option, Some, None}
use Rattle.shim_process.specs.declared.handler_variable.HandlerVariable.{HandlerVariable}
use Rattle.shim_walk_frames.specs.declared.handler.Handler.{Handler}
use Rattle.shim_walk_frames.specs.FrameViews.{FrameView}

-- 1 if there is a variable, and else 0
abbrev pub one_of : Option HandlerVariable → ℕ
one_of None = 0
one_of (Some y) = 1

-- how many of these handlers have a variable
abbrev pub variables_of : List Handler → ℕ
variables_of [] = 0
variables_of (a ∷ places) = one_of a.variable + variables_of places

-- how many handlers in force in these frames have a variable
abbrev pub variables_in : List FrameView → ℕ
variables_in [] = 0
variables_in (s ∷ callers) = variables_of s.places + variables_in callers
