-- What the call that does a step knows from it, of the number found and of the chair before and after.
use Rattle.std.specs.Prelude.{◌≡◌, ◌≢◌, ℕ, ◌+◌, ◌*◌, ◌/◌, ◌%◌, ◌<◌, ◌∷◌, Some}
use Rattle.atomic_table.specs.Table.{Step, rest}
use Rattle.shim_board.specs.declared.content.Content.{Content}
use Rattle.shim_board.specs.declared.content.Content.TheVariants.{Nothing, Piece, Net}
use Rattle.shim_board.specs.Counting.{times}
use Rattle.shim_board.specs.Views.{after_look, after_turn_seen, after_reserve, after_put, after_claim, after_give, after_collect, after_take, after_leave}
use Rattle.shim_board.specs.Kept.{Seated}

module _ {T N M : Type 0} where
  -- a load at a slot
  abbrev pub HasLookedOnce : Step (Content T N) → Seated T N M → ℕ → Seated T N M → Type 0
  HasLookedOnce st m x m' = (k : ℕ) → st.word ≡ k + 1 → m' ≡ (after_look m.0 k x, m.1)

  -- a load at a noted slot: it is EMPTY, of the noted round, and in hand from then on
  abbrev pub HoldsEmpty : Step (Content T N) → Seated T N M → ℕ → Seated T N M → Type 0
  HoldsEmpty st m x m' = (k r : ℕ) → st.word ≡ k + 1 → 0 < times k r m.0.noted → m' ≡ (after_reserve m.0 k (4 * r), (k + 1, Nothing) ∷ m.1)

  -- A load at a slot, which is in hand from then on where it is BACK. Else the chair has looked at the slot.
  abbrev pub HoldsBack : Step (Content T N) → Seated T N M → ℕ → Seated T N M → Type 0
  HoldsBack st m x m' = (k : ℕ) → st.word ≡ k + 1 → (x % 4 ≡ 3 → (y : T) × (m' ≡ (after_reserve m.0 k x, (k + 1, Piece y) ∷ m.1))) × (x % 4 ≢ 3 → m' ≡ (after_look m.0 k x, m.1))

  -- a put into the slot in hand, EMPTY of the round r: it is in hand no more, and what was taken out last is out no more
  abbrev pub HasPut : Step (Content T N) → Seated T N M → ℕ → Seated T N M → Type 0
  HasPut st m x m' = (k r : ℕ) → m.0.hand ≡ Some (k, 4 * r) → m' ≡ (after_put m.0 k r, rest m.1)

  -- The exchange of FULL for TAKEN. Where it found the word that was expected, the chair claims the slot and has its piece. Else the chair has looked at the slot, and found a greater word if it saw the expected word there before.
  abbrev pub HasClaimedOrLooked : Step (Content T N) → Seated T N M → ℕ → Seated T N M → Type 0
  HasClaimedOrLooked st m x m' = (k : ℕ) → st.word ≡ k + 1
      → (x ≡ st.first → (y : T) × (m' ≡ (after_claim m.0 k (x / 4), (k + 1, Piece y) ∷ m.1))) × (x ≢ st.first → (m' ≡ (after_look m.0 k x, m.1)) × (0 < times k st.first m.0.seen → st.first < x))

  -- a give of the claimed slot: the chair has no claimed slot, and what was taken out last is out no more
  abbrev pub HasGiven : Step (Content T N) → Seated T N M → ℕ → Seated T N M → Type 0
  HasGiven st m x m' = m' ≡ (after_give m.0, rest m.1)

  -- a collection from the slot in hand, BACK of the round r: it is in hand no more, and what was taken out last is out no more
  abbrev pub HasCollected : Step (Content T N) → Seated T N M → ℕ → Seated T N M → Type 0
  HasCollected st m x m' = (k r : ℕ) → m.0.hand ≡ Some (k, 4 * r + 3) → m' ≡ (after_collect m.0 k r, rest m.1)

  -- The exchange of FREE for HELD. Where it found FREE, the chair has the turn, and a net of its board's name. Else it found HELD, and the chair has looked at the turn's word.
  abbrev pub HasTakenOrLooked : (N → M) → Step (Content T N) → Seated T N M → ℕ → Seated T N M → Type 0
  HasTakenOrLooked label st m x m' = (x ≡ 0 → (net : N) × (m' ≡ (after_take m.0, (0, Net net) ∷ m.1)) × (m.0.name ≡ Some (label net))) × (x ≢ 0 → (x ≡ 1) × (m' ≡ (after_turn_seen m.0 x, m.1)))

  -- the turn is left: the chair has neither it nor noted slots, and what was taken out last is out no more
  abbrev pub HasLeftTurn : Step (Content T N) → Seated T N M → ℕ → Seated T N M → Type 0
  HasLeftTurn st m x m' = m' ≡ (after_leave m.0, rest m.1)
