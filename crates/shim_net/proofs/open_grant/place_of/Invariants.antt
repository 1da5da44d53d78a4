use Rattle.std.proofs.Common.{◌<◌, slice_index_or, ℕ}
use Rattle.shim_net.specs.Nets.{OpenGrant}
use Rattle.shim_net.specs.Absorbing.{Matches}
use Rattle.shim_net.proofs.open_grant.place_of.Given as goal

-- the piece is of none before it
abbrev pub invariant-loop-at : goal.invariant-loop-at
invariant-loop-at g l = (k : ℕ) (d : OpenGrant g.row.L.Denot) → k < l.at → Matches l.fn.finished.pid l.fn.finished.slot l.fn.finished.round l.fn.finished.grant l.fn.finished.start (slice_index_or l.fn.grants k d) → ⊥
