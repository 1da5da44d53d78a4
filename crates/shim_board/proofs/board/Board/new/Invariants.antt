use Rattle.std.proofs.Common.{◌≡◌, ℕ, ◌+◌, ◌<◌, [], length, Some, None}
use Rattle.shim_board.specs.Counting.{one_below, occurs, Each}
use Rattle.shim_base.specs.Lists.{one_at, total}
use Rattle.shim_board.specs.Chairs.{chairs_known}
use Rattle.shim_board.specs.Views.{fresh}
use Rattle.shim_board.proofs.board.Board.new.Given as goal

abbrev pub invariant-loop-number : goal.invariant-loop-number
invariant-loop-number g l = (l.seat.table_id ≡ l.table.shared.table_id) × (l.seat.id ≡ 0) × (l.seat.me.1 ≡ []) × (l.seat.me.0 ≡ fresh (Some (g.N.Named.name l.table.shared.key.value)) 0 l.number) × (length l.all.items + 1 ≡ l.number)
    × Each (λ c. (((c.seat.table_id ≡ l.table.shared.table_id) × (c.seat.me.0.name ≡ Some (g.N.Named.name l.table.shared.key.value))) × (c.seat.me.0.turn ≡ 0) × (c.seat.me.0.claimed ≡ None)) × (c.seen ≡ 0) × ((number : ℕ) × (number < l.fn.chairs) × (c.seat.me.0 ≡ fresh (Some (g.N.Named.name l.table.shared.key.value)) number (chairs_known l.fn.chairs number)))) l.all.items
    × ((x : ℕ) → one_at x 0 + total (λ c. occurs x c.seat.me.0.numbers) l.all.items ≡ one_below x l.number) × (total (λ c. c.seat.me.0.count) l.all.items ≡ 0)
