use Rattle.std.proofs.Common.{◌≡◌, ◌↔◌, drop, map}
use Rattle.shim_walk_frames.specs.FrameViews.{exception_place_of}
use Rattle.shim_walk.proofs.same_frames.same_places.Given as goal

abbrev pub invariant-loop-place : goal.invariant-loop-place
invariant-loop-place l = (map (exception_place_of l.body) (drop l.place-index l.one) ≡ map (exception_place_of l.body) l.remainder) ↔ (map (exception_place_of l.body) l.one ≡ map (exception_place_of l.body) l.other)
