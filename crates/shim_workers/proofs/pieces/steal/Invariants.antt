use Rattle.std.proofs.Common.{◌≡◌}
use Rattle.shim_steal.specs.Lanes.{home_of, lanes_of}
use Rattle.shim_workers.proofs.pieces.steal.Given as goal

abbrev pub invariant-loop-at : goal.invariant-loop-at
invariant-loop-at g l = (l.home ≡ home_of l.lane) × (l.count ≡ lanes_of l.lane)
