use Rattle.std.proofs.Common.{◌≡◌, ◌+◌, drop}
use Rattle.shim_walk_frames.specs.Variables.{variables_of}
use Rattle.shim_walk_frames.proofs.frame.Frame.variables.Given as goal

abbrev pub invariant-loop-place : goal.invariant-loop-place
invariant-loop-place l = l.many + variables_of (drop l.place-index l.places) ≡ variables_of l.places
