-- How a worker stands between two calls, and which net it has.
use Rattle.std.specs.Prelude.{◌≡◌, ℕ, None}
use Rattle.shim_base.specs.declared.named.Named.{Ghosts}
use Rattle.shim_board.specs.declared.board.Board.{Board}
use Rattle.shim_board.specs.declared.chair.Chair.{Chair}
use Rattle.shim_board.specs.Chairs.{IsOn, name_of, view_of}
use Rattle.shim_net.specs.Nets.{NetView}

module _ {T N M : Type 0} {g : Ghosts N M} where
  -- a chair of this board without a claimed slot, which has the turn where this is 1
  abbrev pub HasTurn : ℕ → Board T N M → Chair T N M g → Type 0
  HasTurn turn b c = IsOn b c × ((view_of c).turn ≡ turn) × ((view_of c).claimed ≡ None)

-- the root and the budget of a net, which are its name
abbrev pub beginning : {S : Type 0} → NetView S → S × ℕ
beginning n = (n.root, n.budget)

-- the second net has the root and the budget of the first
abbrev pub SameName : {S : Type 0} → NetView S → NetView S → Type 0
SameName before after = beginning after ≡ beginning before

-- the net has the root and the budget that are this board's name
abbrev pub IsNetOf : {T S : Type 0} → Board T (NetView S) (S × ℕ) → NetView S → Type 0
IsNetOf b n = beginning n ≡ name_of beginning b
