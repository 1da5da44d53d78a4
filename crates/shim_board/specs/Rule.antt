-- The rule of a board, which holds of its words, of what is at home and of the views, between any two steps.
use Rattle.std.specs.Prelude.{◌≡◌, ◌≢◌, ◌⊎◌, ℕ, ◌+◌, ◌*◌, ◌/◌, ◌%◌, ◌<◌, ◌≤◌, List, [], length, slice_index, Some}
use mathlib.Core.Option.{some}
use lib.ListN.{get_elem?}
use Rattle.shim_board.specs.declared.content.Content.TheVariants.{Nothing, Piece, Net}
use Rattle.shim_board.specs.declared.view.View.{View}
use Rattle.shim_board.specs.Counting.{times, occurs}
use Rattle.shim_base.specs.Lists.{total}
use Rattle.shim_board.specs.Views.{spent}
use Rattle.shim_board.specs.Kept.{word_of, chair_count, Table}

-- the states of a slot
abbrev pub IsEmpty : ℕ → Type 0
IsEmpty x = x % 4 ≡ 0

abbrev pub IsFull : ℕ → Type 0
IsFull x = x % 4 ≡ 1

abbrev IsTaken : ℕ → Type 0
IsTaken x = x % 4 ≡ 2

abbrev pub IsBack : ℕ → Type 0
IsBack x = x % 4 ≡ 3

abbrev round_of : ℕ → ℕ
round_of x = x / 4

module _ {T N M : Type 0} (label : N → M) (board : M) (s : Table T N M) where
  -- the chair j has the view v
  abbrev pub HasView : ℕ → View M → Type 0
  HasView j v = get_elem? s.views j ≡ some v

  -- the place of the slot k is at home, with a piece in it
  abbrev pub HasPiece : ℕ → Type 0
  HasPiece k = (y : T) × (get_elem? s.homes (k + 1) ≡ some (some (Piece y)))

  -- the place of the slot k is at home, with nothing in it
  abbrev pub HasNothing : ℕ → Type 0
  HasNothing k = get_elem? s.homes (k + 1) ≡ some (some Nothing)

  -- no chair has the slot k in hand
  abbrev pub IsOutOfHand : ℕ → Type 0
  IsOutOfHand k = (j : ℕ) (v : View M) → HasView j v → (x : ℕ) → v.hand ≢ Some (k, x)

  -- the turn is free: its word is 0
  abbrev pub IsFree : Type 0
  IsFree = slice_index s.words 0 ≡ 0

  -- the turn is held: its word is 1
  abbrev pub TurnIsHeld : Type 0
  TurnIsHeld = slice_index s.words 0 ≡ 1

  -- exactly one chair has P
  abbrev pub ExactlyOne : (View M → Type 0) → Type 0
  ExactlyOne P = (j : ℕ) × (v : View M) × HasView j v × P v × ((i : ℕ) (u : View M) → HasView i u → P u → i ≡ j)

  -- The rule of a board in the state s between two steps. A net's name is given by `label`, and the board's name is `board`.
  pub record Rule : Type 0 where
    -- The place of a FULL slot is at home, with a piece in it. Where no chair has an EMPTY slot in hand, its place is at home, with nothing in it. Where no chair has a BACK slot in hand, its place is at home, with a piece in it. Where the turn is free, the net is at home and has the board's name.
    pub full : (k : ℕ) → k + 1 < length s.homes → IsFull (word_of s.words k) → HasPiece k
    pub empty : (k : ℕ) → k + 1 < length s.homes → IsEmpty (word_of s.words k) → IsOutOfHand k → HasNothing k
    pub back : (k : ℕ) → k + 1 < length s.homes → IsBack (word_of s.words k) → IsOutOfHand k → HasPiece k
    pub net : IsFree → (x : N) × (get_elem? s.homes 0 ≡ some (some (Net x))) × (label x ≡ board)
    -- a claimed slot is TAKEN, of the round that was claimed, and no two chairs have the same one
    pub taken : (j : ℕ) (v : View M) → HasView j v → (k r : ℕ) → v.claimed ≡ Some (k, r) → word_of s.words k ≡ 4 * r + 2
    pub claimed_once : (i j : ℕ) (u v : View M) → HasView i u → HasView j v → (k q r : ℕ) → u.claimed ≡ Some (k, q) → v.claimed ≡ Some (k, r) → i ≡ j
    -- Over all chairs each pair of a slot and a round occurs at most once in the lists of puts. So it does in the lists of claims, and in those of collections.
    pub differ : (k r : ℕ) → (total (λ v. times k r v.puts) s.views ≤ 1) × (total (λ v. times k r v.claims) s.views ≤ 1) × (total (λ v. times k r v.collections) s.views ≤ 1)
    -- the round of each put into a slot is less than the slot's, or it is the slot's and the slot isn't EMPTY
    pub puts : (j : ℕ) (v : View M) → HasView j v → (k r : ℕ) → 0 < times k r v.puts → (r < round_of (word_of s.words k)) ⊎ ((r ≡ round_of (word_of s.words k)) × (IsEmpty (word_of s.words k) → ⊥))
    -- the round of each claim from a slot is less than the slot's, or it is the slot's and the slot is TAKEN or BACK
    pub claims : (j : ℕ) (v : View M) → HasView j v → (k r : ℕ) → 0 < times k r v.claims
        → (r < round_of (word_of s.words k)) ⊎ ((r ≡ round_of (word_of s.words k)) × (IsTaken (word_of s.words k) ⊎ IsBack (word_of s.words k)))
    -- the round of each collection from a slot is less than the slot's round
    pub collections : (j : ℕ) (v : View M) → HasView j v → (k r : ℕ) → 0 < times k r v.collections → r < round_of (word_of s.words k)
    -- Exactly one chair did each put, claim and collection that a slot's word has passed. A TAKEN slot is the claimed slot of exactly one chair, of the slot's round.
    pub put_by_one : (k r : ℕ) → 4 * r < word_of s.words k → ExactlyOne (λ v. 0 < times k r v.puts)
    pub claimed_by_one : (k r : ℕ) → 4 * r + 1 < word_of s.words k → ExactlyOne (λ v. 0 < times k r v.claims)
    pub collected_by_one : (k r : ℕ) → 4 * r + 3 < word_of s.words k → ExactlyOne (λ v. 0 < times k r v.collections)
    pub taken_by_one : (k : ℕ) → IsTaken (word_of s.words k) → ExactlyOne (λ v. v.claimed ≡ Some (k, round_of (word_of s.words k)))
    -- the turn is free or held; exactly one chair has it where it is held, and none where it is free
    pub turn : IsFree ⊎ TurnIsHeld
    pub turn_held : TurnIsHeld → ExactlyOne (λ v. v.turn ≡ 1)
    pub free : IsFree → (j : ℕ) (v : View M) → HasView j v → v.turn ≡ 0
    -- Only the chair with the turn has noted slots or a slot in hand. A noted slot is EMPTY, of the round noted. A slot in hand is EMPTY or BACK, and its word is still the word that its chair saw.
    pub noted : (j : ℕ) (v : View M) → HasView j v → (k r : ℕ) → 0 < times k r v.noted → (v.turn ≡ 1) × (word_of s.words k ≡ 4 * r)
    pub hand : (j : ℕ) (v : View M) → HasView j v → (k x : ℕ) → v.hand ≡ Some (k, x) → (v.turn ≡ 1) × (word_of s.words k ≡ x) × (IsEmpty x ⊎ IsBack x)
    -- each word that a chair saw in a slot is at most that slot's word
    pub seen : (j : ℕ) (v : View M) → HasView j v → (k x : ℕ) → 0 < times k x v.seen → x ≤ word_of s.words k
    -- a net at home has the board's name, and so has each chair that isn't spent
    pub named : (x : N) → get_elem? s.homes 0 ≡ some (some (Net x)) → label x ≡ board
    pub names : (j : ℕ) (v : View M) → HasView j v → v.numbers ≢ [] → v.name ≡ Some board
    -- each number below the count of chairs is one chair's, and no other number is any chair's; a chair without a number is spent
    pub numbers : (x : ℕ) → x < chair_count s.views → ExactlyOne (λ v. 0 < occurs x v.numbers)
    pub no_others : (x : ℕ) → chair_count s.views ≤ x → (j : ℕ) (v : View M) → HasView j v → occurs x v.numbers ≡ 0
    pub unspent : (j : ℕ) (v : View M) → HasView j v → v.numbers ≡ [] → v ≡ spent
    -- there are as many words as places, one for each slot and one for the turn, and none is above 2^64 - 4
    pub one_each : length s.words ≡ length s.homes
    pub bounded : (k : ℕ) → word_of s.words k ≤ 18446744073709551612

-- no chair has put anything, or has the turn
abbrev pub NothingDone : {M : Type 0} → List (View M) → Type 0
NothingDone {M} views = (j : ℕ) (v : View M) → get_elem? views j ≡ some v → (v.puts ≡ []) × (v.turn ≡ 0)

-- all slots are EMPTY, of round 0, and the turn is free
abbrev pub IsOpening : {T N M : Type 0} → Table T N M → Type 0
IsOpening s = (slice_index s.words 0 ≡ 0) × ((k : ℕ) → word_of s.words k ≡ 0)
