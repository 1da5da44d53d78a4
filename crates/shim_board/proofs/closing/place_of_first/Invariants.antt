use Rattle.std.proofs.Common.{◌-◌, ◌<◌, vec_len, drop}
use Rattle.shim_board.specs.Counting.{occurs}
use Rattle.shim_base.specs.Lists.{total}
use Rattle.shim_board.proofs.closing.place_of_first.Given as goal

abbrev pub invariant-loop-at : goal.invariant-loop-at
invariant-loop-at g l = 0 < total (λ c. occurs 0 c.seat.me.0.numbers) (drop l.at l.chairs.items)

abbrev pub decreases-loop-at : goal.decreases-loop-at
decreases-loop-at g l = vec_len l.chairs - l.at
