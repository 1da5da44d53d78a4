use Rattle.std.proofs.Common.{◌≡◌, ◌≢◌, ℕ, ◌+◌, [], length, Some, None}
use Rattle.shim_board.specs.Kept.{HoldsNothing}
use Rattle.shim_board.specs.Closing.{SameLists}
use Rattle.shim_board.specs.Counting.{Each, occurs, one_below}
use Rattle.shim_base.specs.Lists.{total}
use Rattle.shim_board.proofs.board.Board.join_all.Given as goal

abbrev pub invariant-loop-chair : goal.invariant-loop-chair
invariant-loop-chair g l = (l.seat.table_id ≡ l.self.table.shared.table_id) × (l.seat.id ≡ 0) × (l.seat.me.1 ≡ []) × HoldsNothing l.seat.me.0 × (l.seat.me.0.numbers ≢ [])
    × Each (λ c. ((c.seat.table_id ≡ l.self.table.shared.table_id) × (c.seat.me.0.name ≡ Some (g.N.Named.name l.self.table.shared.key.value))) × (c.seat.me.0.turn ≡ 0) × (c.seat.me.0.claimed ≡ None)) l.others.items
    × ((x : ℕ) → occurs x l.seat.me.0.numbers + total (λ c. occurs x c.seat.me.0.numbers) l.others.items ≡ one_below x l.seat.me.0.count)
    × SameLists l.seat.me.0 l.others.items l.fn.seat.me.0 l.fn.others.items

abbrev pub decreases-loop-chair : goal.decreases-loop-chair
decreases-loop-chair g l = length l.others.items
