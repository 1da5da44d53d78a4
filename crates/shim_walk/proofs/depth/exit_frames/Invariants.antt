use Rattle.std.proofs.Common.{◌≡◌, ◌≤◌, ℤ, ◌∷◌, List, length, map}
use Rattle.shim_units.specs.declared.unit.Unit.{Unit as UnitOf}
use Rattle.shim_walk_frames.specs.Depths.{shown}
use Rattle.shim_walk_frames.specs.Unwinding.{handler_in, unwound_in}
use Rattle.shim_walk_frames.specs.Variables.{variables_in}
use Rattle.shim_walk_frames.specs.Cursors.{AllHaveOwnCursors}
use Rattle.shim_walk.proofs.depth.exit_frames.Given as goal

abbrev pub invariant-loop-callers : goal.invariant-loop-callers
invariant-loop-callers l = record {
  same : (units : List UnitOf) (v : ℤ) → unwound_in (map (shown units) l.callers) (shown units l.top) l.place v l.locations ≡ unwound_in (map (shown units) l.initial.callers) (shown units l.initial.top) l.place v l.initial.locations;
  handler : handler_in l.top l.place l.callers ≡ handler_in l.initial.top l.place l.initial.callers;
  fewer : variables_in (l.top ∷ l.callers) ≤ variables_in (l.initial.top ∷ l.initial.callers);
  cursors : (units : List UnitOf) → AllHaveOwnCursors units (l.initial.top ∷ l.initial.callers) → AllHaveOwnCursors units (l.top ∷ l.callers);
}

abbrev pub decreases-loop-callers : goal.decreases-loop-callers
decreases-loop-callers l = length l.callers
