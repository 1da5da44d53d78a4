-- What each step does to the view of the chair that does it.
use Rattle.std.specs.Prelude.{◌≡◌, ◌==◌, ◌&&◌, cond, ℕ, ◌+◌, ◌*◌, ◌/◌, ◌%◌, ◌<◌, zero, suc, List, [], ◌∷◌, ◌++◌, Option, Some, None}
use Rattle.shim_board.specs.declared.view.View.{View}
use Rattle.shim_board.specs.declared.content.Content.{Content}
use Rattle.shim_board.specs.declared.content.Content.TheVariants.{Nothing}
use Rattle.shim_board.specs.Counting.{without}

-- with the turn, a slot that is seen EMPTY is noted
abbrev pub noted_with : ℕ → ℕ → ℕ → List (ℕ × ℕ) → List (ℕ × ℕ)
noted_with turn k x noted = cond ((x % 4 == 0) && (turn == 1)) ((k, x / 4) ∷ noted) noted

-- these words of the slot k
abbrev pub at_slot : ℕ → List ℕ → List (ℕ × ℕ)
at_slot k [] = []
at_slot k (x ∷ xs) = (k, x) ∷ at_slot k xs

-- the first of these words, or x where there is none
abbrev pub first_or : List ℕ → ℕ → ℕ
first_or [] x = x
first_or (y ∷ ys) x = y

-- FULL words, each of them less than the next one, and the last one less than x
abbrev pub Ascends : List ℕ → ℕ → Type 0
Ascends [] x = Unit {0}
Ascends (y ∷ ys) x = (y % 4 ≡ 1) × (y < first_or ys x) × Ascends ys x

module _ {M : Type 0} where
  -- a chair of the given name of a board, number and count of chairs, which has done nothing yet
  abbrev pub fresh : Option M → ℕ → ℕ → View M
  fresh name number count = record { puts = []; claims = []; collections = []; claimed = None; noted = []; hand = None; seen = []; turns_seen = []; turn = 0; numbers = number ∷ []; count = count; name = name }

  -- chair 0 of a new board of the given name, the only chair, which has done nothing yet
  abbrev pub first_chair : M → View M
  first_chair name = fresh (Some name) 0 1

  -- a chair that has joined chair 0
  abbrev pub spent : View M
  spent = record { puts = []; claims = []; collections = []; claimed = None; noted = []; hand = None; seen = []; turns_seen = []; turn = 0; numbers = []; count = 0; name = None }

  module _ (v : View M) where
    -- the word x was seen in the slot k; where x is EMPTY and the chair has the turn, the slot is noted
    abbrev pub after_look : ℕ → ℕ → View M
    after_look k x = record v { seen = v.seen ++ (k, x) ∷ []; noted = noted_with v.turn k x v.noted }

    -- the word x of the turn was seen
    abbrev pub after_turn_seen : ℕ → View M
    after_turn_seen x = record v { turns_seen = v.turns_seen ++ x ∷ [] }

    -- the slot k is in hand, with the word x
    abbrev pub after_reserve : ℕ → ℕ → View M
    after_reserve k x = record v { hand = Some (k, x) }

    -- the slot k was put in the round r, and is neither in hand nor noted from then on
    abbrev pub after_put : ℕ → ℕ → View M
    after_put k r = record v { puts = v.puts ++ (k, r) ∷ []; hand = None; noted = without k v.noted }

    -- the slot k was claimed in the round r, and is the claimed slot
    abbrev pub after_claim : ℕ → ℕ → View M
    after_claim k r = record v { claims = v.claims ++ (k, r) ∷ []; claimed = Some (k, r) }

    -- the claimed slot was given, and none is claimed
    abbrev pub after_give : View M
    after_give = record v { claimed = None }

    -- the slot k was collected in the round r, and is in hand no more
    abbrev pub after_collect : ℕ → ℕ → View M
    after_collect k r = record v { collections = v.collections ++ (k, r) ∷ []; hand = None }

    -- the chair has the turn
    abbrev pub after_take : View M
    after_take = record v { turn = 1 }

    -- the chair has neither the turn nor noted slots
    abbrev pub after_leave : View M
    after_leave = record v { turn = 0; noted = [] }

    -- the view of chair 0 once it split off a chair: it counts one chair more
    abbrev pub after_split : View M
    after_split = record v { count = v.count + 1 }

    -- the view of the chair that chair 0 splits off
    abbrev pub split_off : View M
    split_off = fresh v.name v.count 0

    -- chair 0, which has taken in the chair of the view w
    abbrev pub after_join : View M → View M
    after_join w = record v { puts = v.puts ++ w.puts; claims = v.claims ++ w.claims; collections = v.collections ++ w.collections; numbers = v.numbers ++ w.numbers }

  -- the same chair, which has seen these words, too, in the slot k
  abbrev pub seeing : View M → ℕ → List ℕ → View M
  seeing v k words = record v { seen = v.seen ++ at_slot k words }

  -- w is v after looks at the slot k. The last look found x. Each look before it found a FULL word, and each of these words is less than the next word found.
  abbrev pub HasLooked : View M → View M → ℕ → ℕ → Type 0
  HasLooked v w k x = (before : List ℕ) × Ascends before x × (w ≡ after_look (seeing v k before) k x)

  -- w is v after looks at the slot k and then a claim of it. Each look found a FULL word, greater than the word before. The last look found FULL of the round r, and the claim is of that round.
  abbrev pub HasClaimed : View M → View M → ℕ → ℕ → Type 0
  HasClaimed v w k r = (before : List ℕ) × Ascends before (4 * r + 1) × (w ≡ after_claim (seeing v k (before ++ (4 * r + 1) ∷ [])) k r)

module _ {T N : Type 0} where
  -- what is out with a chair for the turn: the net's place, without content, if the number is not 0
  abbrev pub out_turn : ℕ → List (ℕ × Content T N)
  out_turn zero = []
  out_turn (suc n) = (0, Nothing) ∷ []

  -- the place of the claimed slot, if there is one, without content, before the rest
  abbrev pub out_claimed : Option (ℕ × ℕ) → List (ℕ × Content T N) → List (ℕ × Content T N)
  out_claimed (Some p) rest = (p.0 + 1, Nothing) ∷ rest
  out_claimed None rest = rest

  -- what is out with a chair between two calls: its claimed slot, and with the turn the net's place
  abbrev pub carried : {M : Type 0} → View M → List (ℕ × Content T N)
  carried v = out_claimed v.claimed (out_turn v.turn)
