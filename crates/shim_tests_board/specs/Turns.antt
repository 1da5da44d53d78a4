-- How a chair stands between two calls of a test.
use Rattle.std.specs.Prelude.{◌≡◌, ℕ, None}
use Rattle.shim_base.specs.declared.named.Named.{Ghosts}
use Rattle.shim_board.specs.declared.board.Board.{Board}
use Rattle.shim_board.specs.declared.chair.Chair.{Chair}
use Rattle.shim_board.specs.Chairs.{IsOn, view_of}

module _ {T N M : Type 0} {g : Ghosts N M} where
  -- a chair of this board without a claimed slot, which has the turn where this is 1
  abbrev pub HasTurn : ℕ → Board T N M → Chair T N M g → Type 0
  HasTurn turn b c = IsOn b c × ((view_of c).turn ≡ turn) × ((view_of c).claimed ≡ None)
