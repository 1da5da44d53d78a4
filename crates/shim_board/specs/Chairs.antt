-- What public contracts read of a board and of its chairs.
use Rattle.std.specs.Prelude.{◌≡◌, ℕ, zero, suc, ◌-◌, ◌<◌, List, Some, None}
use Rattle.shim_base.specs.declared.named.Named.{Ghosts}
use Rattle.shim_board.specs.declared.board.Board.{Board}
use Rattle.shim_board.specs.declared.chair.Chair.{Chair}
use Rattle.shim_board.specs.declared.view.View.{View}
use Rattle.shim_board.specs.Counting.{one_below, occurs}
use Rattle.shim_base.specs.Lists.{total}
use Rattle.shim_board.specs.Views.{fresh}

-- the count of chairs that the chair of this number keeps: chair 0 keeps the board's, and each other chair keeps 0
abbrev pub chairs_known : ℕ → ℕ → ℕ
chairs_known chairs zero = chairs
chairs_known chairs (suc number) = 0

module _ {T N M : Type 0} where
  -- how many slots the board has: one fewer than its table has, of which the first is for the turn
  abbrev pub slots_of : Board T N M → ℕ
  slots_of b = b.table.shared.table_id.slots - 1

  -- a slot of this board
  abbrev pub HasSlot : Board T N M → ℕ → Type 0
  HasSlot b slot = slot < slots_of b

  -- the board's name: the name that `label` gives of the net with which the board was made
  abbrev pub name_of : (N → M) → Board T N M → M
  name_of label b = label b.table.shared.key.value

module _ {T N M : Type 0} {g : Ghosts N M} where
  abbrev pub view_of : Chair T N M g → View M
  view_of c = c.seat.me.0

  -- the word that the chair found in its last call that answered `None`, and 0 before the first such call
  abbrev pub seen_of : Chair T N M g → ℕ
  seen_of c = c.seen

  -- a chair of this board
  abbrev pub IsOn : Board T N M → Chair T N M g → Type 0
  IsOn b c = (c.seat.table_id ≡ b.table.shared.table_id) × ((view_of c).name ≡ Some (name_of g.name b))

  -- a chair of this board with neither the turn nor a claimed slot
  abbrev pub IsIdleOn : Board T N M → Chair T N M g → Type 0
  IsIdleOn b c = IsOn b c × ((view_of c).turn ≡ 0) × ((view_of c).claimed ≡ None)

  -- one of so many chairs of this board, which has a number below their count and has done nothing yet
  abbrev pub IsNewOn : Board T N M → ℕ → Chair T N M g → Type 0
  IsNewOn b chairs c = IsIdleOn b c × (seen_of c ≡ 0) × ((number : ℕ) × (number < chairs) × (view_of c ≡ fresh (Some (name_of g.name b)) number (chairs_known chairs number)))

  -- d counts for the same chairs as c, and keeps the same count of chairs
  abbrev pub StandsAs : Chair T N M g → Chair T N M g → Type 0
  StandsAs c d = ((view_of d).numbers ≡ (view_of c).numbers) × ((view_of d).count ≡ (view_of c).count)

  -- how many chairs their board has, where chair 0 is among these
  abbrev pub chairs_counted : List (Chair T N M g) → ℕ
  chairs_counted chairs = total (λ c. (view_of c).count) chairs

  -- these are all chairs of their board: each number below their count is one chair's
  abbrev pub AreAll : List (Chair T N M g) → Type 0
  AreAll chairs = (0 < chairs_counted chairs) × ((x : ℕ) → total (λ c. occurs x (view_of c).numbers) chairs ≡ one_below x (chairs_counted chairs))
