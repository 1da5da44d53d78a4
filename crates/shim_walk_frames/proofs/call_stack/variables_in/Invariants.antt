use Rattle.std.proofs.Common.{◌≡◌, ◌+◌, ◌∷◌, drop}
use Rattle.shim_walk_frames.specs.Variables.{variables_in}
use Rattle.shim_walk_frames.proofs.call_stack.variables_in.Given as goal

abbrev pub invariant-loop-caller : goal.invariant-loop-caller
invariant-loop-caller l = l.many + variables_in (drop l.caller-index l.caller-items) ≡ variables_in (l.top ∷ l.caller-items)
