use Rattle.std.proofs.Common.{◌≡◌, ◌↔◌, drop, map}
use Rattle.shim_walk_frames.specs.Depths.{shown}
use Rattle.shim_walk.proofs.same_frames.same_frames.Given as goal

abbrev pub invariant-loop-frame : goal.invariant-loop-frame
invariant-loop-frame l = (map (shown l.units) (drop l.frame-index l.one) ≡ map (shown l.units) l.remainder) ↔ (map (shown l.units) l.one ≡ map (shown l.units) l.other)
