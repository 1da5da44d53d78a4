-- What each step keeps, as counts over all views. The rule of `Rule.antt` follows from it.
use Rattle.std.specs.Prelude.{◌≡◌, ◌≢◌, ℕ, ◌+◌, ◌*◌, ◌%◌, ◌<◌, ◌≤◌, List, [], ◌∷◌, length, slice_index, Option, Some, None}
use mathlib.Core.Option.{none, some}
use mathlib.Core.Option as maybe
use lib.ListN.{get_elem?}
use Rattle.atomic_table.specs.Table.{State, Me}
use Rattle.shim_board.specs.declared.content.Content.{Content}
use Rattle.shim_board.specs.declared.content.Content.TheVariants.{Nothing, Piece, Net}
use Rattle.shim_board.specs.declared.view.View.{View}
use Rattle.shim_board.specs.Counting.{one_below, times, occurs, one_if}
use Rattle.shim_base.specs.Lists.{one_at, total}
use Rattle.shim_board.specs.Views.{spent}

-- the word of the slot k: the turn's word stands before those of the slots
abbrev pub word_of : List ℕ → ℕ → ℕ
word_of words k = slice_index words (k + 1)

-- neither FULL nor TAKEN
abbrev pub IsEmptyOrBack : ℕ → Type 0
IsEmptyOrBack x = (x % 4 ≡ 1 → ⊥) × (x % 4 ≡ 2 → ⊥)

-- how many chairs there are, which chair 0 keeps
abbrev pub chair_count : {M : Type 0} → List (View M) → ℕ
chair_count [] = 0
chair_count (v ∷ vs) = v.count

-- The invariant of the words and the views. Over all chairs a pair of a slot and a round is listed once if the slot's word has passed the step that adds it, and else never.
pub record CountsKept {M : Type 0} (words : List ℕ) (views : List (View M)) : Type 0 where
  pub puts : (k r : ℕ) → total (λ v. times k r v.puts) views ≡ one_below (4 * r) (word_of words k)
  pub claims : (k r : ℕ) → total (λ v. times k r v.claims) views ≡ one_below (4 * r + 1) (word_of words k)
  pub collections : (k r : ℕ) → total (λ v. times k r v.collections) views ≡ one_below (4 * r + 3) (word_of words k)
  pub claimed : (k r : ℕ) → total (λ v. one_if k r v.claimed) views ≡ one_at (4 * r + 2) (word_of words k)
  pub owned : (j : ℕ) (v : View M) → get_elem? views j ≡ some v → (k r : ℕ) → v.claimed ≡ Some (k, r) → 0 < times k r v.claims
  pub turns : total (λ v. v.turn) views ≡ slice_index words 0
  pub turn : slice_index words 0 < 2
  pub bounded : (k : ℕ) → word_of words k ≤ 18446744073709551612
  pub noted : (j : ℕ) (v : View M) → get_elem? views j ≡ some v → (k r : ℕ) → 0 < times k r v.noted → (v.turn ≡ 1) × (word_of words k ≡ 4 * r)
  pub hand : (j : ℕ) (v : View M) → get_elem? views j ≡ some v → (k x : ℕ) → v.hand ≡ Some (k, x) → (v.turn ≡ 1) × (word_of words k ≡ x) × IsEmptyOrBack x
  pub seen : (j : ℕ) (v : View M) → get_elem? views j ≡ some v → (k x : ℕ) → 0 < times k x v.seen → x ≤ word_of words k
  pub numbers : (x : ℕ) → total (λ v. occurs x v.numbers) views ≡ one_below x (chair_count views)
  pub unspent : (j : ℕ) (v : View M) → get_elem? views j ≡ some v → v.numbers ≡ [] → v ≡ spent

-- 1 if the slot k is the one in hand, else 0
abbrev pub in_hand : ℕ → Option (ℕ × ℕ) → ℕ
in_hand k (Some p) = one_at k p.0
in_hand k None = 0

-- how many chairs have the slot k in hand
abbrev pub in_hands : {M : Type 0} → ℕ → List (View M) → ℕ
in_hands k views = total (λ v. in_hand k v.hand) views

-- what is at home in a place, if it isn't out with a chair
abbrev pub SlotValue : Type 0 → Type 0 → Type 0
SlotValue T N = maybe.Option (Content T N)

-- What is at home in a slot's place, by its word x and by how many chairs have the slot in hand. In a FULL slot it is a piece. Where no chair has the slot in hand, it is nothing in an EMPTY slot, and a piece in a BACK slot.
abbrev pub SlotFits : {T N : Type 0} → ℕ → ℕ → maybe.Option (SlotValue T N) → Type 0
SlotFits {T} x count h = (x % 4 ≡ 1 → (y : T) × (h ≡ some (some (Piece y)))) × (x % 4 ≡ 0 → count ≡ 0 → h ≡ some (some Nothing)) × (x % 4 ≡ 3 → count ≡ 0 → (y : T) × (h ≡ some (some (Piece y))))

-- a state of a board's table: its words, what is at home, and the views of its chairs
abbrev pub Table : Type 0 → Type 0 → Type 0 → Type 0
Table T N M = State (Content T N) (View M)

-- a chair's view, and what is out with it
abbrev pub Seated : Type 0 → Type 0 → Type 0 → Type 0
Seated T N M = Me (Content T N) (View M)

module _ {T N M : Type 0} (label : N → M) (board : M) (s : Table T N M) where
  -- The invariant of the places and the names: what is at home in each slot's place and in the net's, and which board a chair names.
  pub record ValuesKept : Type 0 where
    pub one_each : length s.words ≡ length s.homes
    pub slots : (k : ℕ) → k + 1 < length s.homes → SlotFits (word_of s.words k) (in_hands k s.views) (get_elem? s.homes (k + 1))
    pub net : slice_index s.words 0 ≡ 0 → (x : N) × (get_elem? s.homes 0 ≡ some (some (Net x))) × (label x ≡ board)
    pub net_out : slice_index s.words 0 ≡ 1 → get_elem? s.homes 0 ≡ some none
    pub names : (j : ℕ) (v : View M) → get_elem? s.views j ≡ some v → v.numbers ≢ [] → v.name ≡ Some board

  -- what each step keeps of a state: the counts over words and views, the values at home, and the names
  abbrev pub Kept : Type 0
  Kept = CountsKept s.words s.views × ValuesKept

-- a chair with neither the turn nor a claimed slot nor a slot in hand
abbrev pub HoldsNothing : {M : Type 0} → View M → Type 0
HoldsNothing v = (v.turn ≡ 0) × (v.claimed ≡ None) × (v.hand ≡ None)

-- the chair has each number below its count of chairs exactly once, and no other number
abbrev pub HasAll : {M : Type 0} → View M → Type 0
HasAll v = (x : ℕ) → occurs x v.numbers ≡ one_below x v.count
