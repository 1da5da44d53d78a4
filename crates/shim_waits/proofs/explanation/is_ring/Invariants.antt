use Rattle.std.proofs.Common.{◌↔◌}
use Rattle.shim_waits.specs.Holds.{IsRing}
use Rattle.shim_waits.proofs.Index.{LeadsFrom}
use Rattle.shim_waits.proofs.explanation.is_ring.Given as goal

-- the rest is led through exactly where all is a ring
abbrev pub invariant-loop-i : goal.invariant-loop-i
invariant-loop-i l = LeadsFrom l.waits l.cycle l.i ↔ IsRing l.waits l.cycle
