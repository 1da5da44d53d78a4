use Rattle.std.proofs.Common.{◌≡◌, ◌≤◌, ◌∷◌, length, map}
use Rattle.shim_walk_frames.specs.Depths.{returned, shown}
use Rattle.shim_walk_frames.specs.Variables.{variables_in}
use Rattle.shim_walk_frames.specs.Cursors.{AllHaveOwnCursors}
use Rattle.shim_walk.proofs.depth.settle.Given as goal

abbrev pub invariant-loop-callers : goal.invariant-loop-callers
invariant-loop-callers l = record {
  value : returned (map (shown l.units) l.callers) (shown l.units l.top) l.locations ≡ returned (map (shown l.units) l.initial.callers) (shown l.units l.initial.top) l.initial.locations;
  fewer : variables_in (l.top ∷ l.callers) ≤ variables_in (l.initial.top ∷ l.initial.callers);
  cursors : AllHaveOwnCursors l.units (l.top ∷ l.callers);
}

abbrev pub decreases-loop-callers : goal.decreases-loop-callers
decreases-loop-callers l = length l.callers
