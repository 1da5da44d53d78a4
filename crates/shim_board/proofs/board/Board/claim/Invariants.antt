use Rattle.std.proofs.Common.{◌≡◌, ◌-◌}
use Rattle.shim_board.specs.Views.{HasLooked}
use Rattle.shim_board.proofs.board.Board.claim.Given as goal

abbrev pub invariant-loop-seen : goal.invariant-loop-seen
invariant-loop-seen g l = (l.seat.table_id ≡ l.fn.chair.seat.table_id) × (l.seat.id ≡ l.fn.chair.seat.id) × (l.seat.me.1 ≡ l.fn.chair.seat.me.1) × HasLooked l.fn.chair.seat.me.0 l.seat.me.0 l.slot l.seen

abbrev pub decreases-loop-seen : goal.decreases-loop-seen
decreases-loop-seen g l = 18446744073709551616 - l.seen
