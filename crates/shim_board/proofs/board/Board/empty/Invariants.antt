use Rattle.std.proofs.Common.{◌≡◌, ℕ, ◌+◌, ◌-◌, ◌≤◌, ◌<◌, vec_len, vec_capacity, slice_index_or, true, false}
use Rattle.std.specs.Mem.Slots.{slots_items, slots_filled, slots_len, IsFull}
use mathlib.Core.Option.{some}
use lib.ListN.{get_elem?}
use Rattle.shim_board.specs.declared.content.Content.TheVariants.{Net}
use Rattle.shim_board.specs.Kept.{Table}
use Rattle.shim_board.specs.Closing.{left_in}
use Rattle.shim_board.proofs.Ends.{EndsAs}
use Rattle.shim_board.proofs.board.Board.empty.Given as goal

abbrev pub invariant-loop-slot : goal.invariant-loop-slot
invariant-loop-slot g l = (l.slot + 1 ≤ slots_len l.closed.slots) × (slots_len l.closed.slots ≡ l.fn.self.table.shared.table_id.slots) × (vec_len l.left ≤ l.slot) × (64 ≤ vec_capacity l.left) × (g.N.Named.name l.net ≡ g.N.Named.name l.fn.self.table.shared.key.value)
    × ((k : ℕ) → l.slot + 1 ≤ k → k < slots_len l.closed.slots → slice_index_or (slots_filled l.closed.slots) k false ≡ true) × ((k : ℕ) → k < l.slot + 1 → slice_index_or (slots_filled l.closed.slots) k false ≡ false)
    × ((s : Table _ _ _) × EndsAs g.N.Named.name (g.N.Named.name l.fn.self.table.shared.key.value) l.fn.seat.me.0 (slots_items l.closed.slots) s × (l.left.items ≡ left_in s l.slot) × (get_elem? s.homes 0 ≡ some (some (Net l.net)))) × (slots_len l.closed.words ≡ l.fn.self.table.shared.table_id.words) × IsFull l.closed.words

abbrev pub decreases-loop-slot : goal.decreases-loop-slot
decreases-loop-slot g l = slots_len l.closed.slots - l.slot
