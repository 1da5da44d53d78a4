-- What a closed board leaves.
use Rattle.std.specs.Prelude.{◌≡◌, ◌≢◌, ◌==◌, ℕ, zero, suc, ◌+◌, ◌%◌, Bool, cond, List, [], ◌∷◌, ◌++◌, length}
use mathlib.Core.Option.{none, some}
use mathlib.Core.Option as maybe
use lib.ListN.{get_elem?}
use Rattle.shim_base.specs.declared.named.Named.{Ghosts}
use Rattle.shim_board.specs.declared.board.Board.{Board}
use Rattle.shim_board.specs.declared.chair.Chair.{Chair}
use Rattle.shim_board.specs.declared.content.Content.TheVariants.{Piece, Net}
use Rattle.shim_board.specs.declared.view.View.{View}
use Rattle.shim_board.specs.Counting.{times}
use Rattle.shim_base.specs.Lists.{total}
use Rattle.shim_board.specs.Views.{spent}
use Rattle.shim_board.specs.Kept.{word_of, SlotValue, Table, HoldsNothing}
use Rattle.shim_board.specs.Rule.{Rule}
use Rattle.shim_board.specs.Chairs.{name_of, slots_of, view_of}

-- whether the word x is that of a FULL or BACK slot: it is odd
abbrev pub is_full_or_back : ℕ → Bool
is_full_or_back x = x % 2 == 1

-- all chairs but chair 0 are spent
abbrev pub OthersSpent : {M : Type 0} → List (View M) → Type 0
OthersSpent {M} views = (j : ℕ) (v : View M) → get_elem? views j ≡ some v → j ≢ 0 → v ≡ spent

module _ {T N : Type 0} where
  -- the piece at home in the place of the slot k, with the slot's number, where the slot's word x is FULL or BACK; else nothing
  abbrev pub left_at : ℕ → ℕ → maybe.Option (SlotValue T N) → List (ℕ × T)
  left_at k x (some (some (Piece y))) = cond (is_full_or_back x) ((k, y) ∷ []) []
  left_at k x _ = []

  module _ {M : Type 0} where
    -- the pieces in the FULL and BACK slots below n, in order
    abbrev pub left_in : Table T N M → ℕ → List (ℕ × T)
    left_in s zero = []
    left_in s (suc n) = left_in s n ++ left_at n (word_of s.words n) (get_elem? s.homes (n + 1))

    -- a state of this board's table, which keeps to the rule, in which chair 0 has the view v and the others are spent
    pub record IsLast (label : N → M) (b : Board T N M) (v : View M) (s : Table T N M) : Type 0 where
      pub rule : Rule label (name_of label b) s
      pub first : get_elem? s.views 0 ≡ some v
      pub others : OthersSpent s.views
      pub places : length s.homes ≡ slots_of b + 1

    -- In some state that is last by `IsLast`, `net` is the net at home. The pieces of the FULL and BACK slots there are `left`, each with its slot.
    abbrev pub AreLastOf : (N → M) → Board T N M → View M → N → List (ℕ × T) → Type 0
    AreLastOf label b v net left = (s : Table T N M) × IsLast label b v s × (get_elem? s.homes 0 ≡ some (some (Net net))) × (left ≡ left_in s (slots_of b))

module _ {T N M : Type 0} {g : Ghosts N M} where
  -- The lists of u and of the chairs cs have each put, claim and collection as often, all together, as those of v and of the chairs ds.
  abbrev pub SameLists : View M → List (Chair T N M g) → View M → List (Chair T N M g) → Type 0
  SameLists u cs v ds = ((k r : ℕ) → times k r u.puts + total (λ c. times k r (view_of c).puts) cs ≡ times k r v.puts + total (λ c. times k r (view_of c).puts) ds)
      × ((k r : ℕ) → times k r u.claims + total (λ c. times k r (view_of c).claims) cs ≡ times k r v.claims + total (λ c. times k r (view_of c).claims) ds)
      × ((k r : ℕ) → times k r u.collections + total (λ c. times k r (view_of c).collections) cs ≡ times k r v.collections + total (λ c. times k r (view_of c).collections) ds)

  -- The lists of v have each put, claim and collection as often as the lists of these chairs together. The chair of v has neither the turn nor a claimed slot nor a slot in hand.
  pub record HasAllOf (v : View M) (chairs : List (Chair T N M g)) : Type 0 where
    pub puts : (k r : ℕ) → times k r v.puts ≡ total (λ c. times k r (view_of c).puts) chairs
    pub claims : (k r : ℕ) → times k r v.claims ≡ total (λ c. times k r (view_of c).claims) chairs
    pub collections : (k r : ℕ) → times k r v.collections ≡ total (λ c. times k r (view_of c).collections) chairs
    pub idle : HoldsNothing v

  -- `net` is the net of the turn, and `left` are the pieces in the FULL and BACK slots, each with its slot, once chair 0 has all that `chairs` had. What these chairs put, claimed and collected fixes which slots `left` names.
  abbrev pub AreLeft : Board T N M → List (Chair T N M g) → N → List (ℕ × T) → Type 0
  AreLeft b chairs net left = (v : View M) × HasAllOf v chairs × AreLastOf g.name b v net left
