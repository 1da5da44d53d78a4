-- Once one chair has all numbers, each slot is at home.
use Rattle.std.proofs.Common.{set, Bool, true, false, get_or-set_other, ◌≡◌, ◌≢◌, ◌⊎◌, ℕ, zero, suc, ◌+◌, ◌*◌, ◌/◌, ◌%◌, ◌<◌, List, [], ◌∷◌, ◌++◌, cond, eq-eqb, length, get_or, refl, sym, ap, ◌∙◌, subst, ⊎_elim, inl, inr, arith, None}
use mathlib.Core.Logic.{dite}
use mathlib.Core.Option.{some, some-injective, some-ne-none}
use native.Mathlib.Decide.{ℕ_discrete}
use lib.ListN.{get_elem?}
use Rattle.atomic_table.specs.Table.{Seen, Final}
use Rattle.shim_board.specs.declared.view.View.{View}
use Rattle.shim_board.specs.declared.content.Content.{Content}
use Rattle.shim_board.specs.declared.content.Content.TheVariants.{Nothing, Piece, Net}
use Rattle.shim_board.specs.Counting.{occurs, one_if}
use Rattle.shim_base.specs.Lists.{total}
use Rattle.shim_board.specs.Views.{spent}
use Rattle.shim_board.specs.Closing.{left_at, left_in, OthersSpent}
use Rattle.shim_board.specs.Kept.{word_of, CountsKept, in_hand, Table, Kept, HoldsNothing, HasAll}
use Rattle.shim_board.proofs.Totals.{total-two, total-none}
use Rattle.shim_board.proofs.Seats.{count_first}

none_drawn : (xs : List ℕ) → ((x : ℕ) → occurs x xs ≡ 0) → xs ≡ []
none_drawn [] h = refl
none_drawn (x ∷ xs) h = absurd (let a = h x in omega arith)

-- the piece of a place, with the number of its slot
abbrev pub piece_of : {T N : Type 0} → ℕ → Content T N → List (ℕ × T)
piece_of k (Piece y) = (k, y) ∷ []
piece_of k _ = []

pub no_piece : {T N : Type 0} (k : ℕ) (c : Content T N) → ((y : T) → c ≡ Piece y → ⊥) → piece_of k c ≡ []
no_piece k (Piece y) not = absurd (not y refl)
no_piece k Nothing not = refl
no_piece k (Net x) not = refl

module _ {M : Type 0} where
  others_spent : (words : List ℕ) (views : List (View M)) → CountsKept words views → (v : View M) → get_elem? views 0 ≡ some v → HasAll v → (j : ℕ) (u : View M) → get_elem? views j ≡ some u → j ≢ 0 → u ≡ spent
  others_spent words views r v at all j u e other = r.unspent j u e (none_drawn u.numbers (λ x. let t = total-two (λ (a : View M). occurs x a.numbers) views j 0 u v e at other in let n = r.numbers x in let a = all x in let c = count_first views v at in omega arith))

  pub total-alone : (f : View M → ℕ) (views : List (View M)) (v : View M) → get_elem? views 0 ≡ some v → ((j : ℕ) (u : View M) → get_elem? views j ≡ some u → j ≢ 0 → f u ≡ 0) → total f views ≡ f v
  total-alone f [] v e each = absurd (some-ne-none v (sym e))
  total-alone f (x ∷ xs) v e each = let t = total-none f xs (λ j u a. each (suc j) u a (λ z. omega arith)) in let is : f x ≡ f v = ap f (some-injective x v e) in omega arith

module _ {T N M : Type 0} (label : N → M) (board : M) (s : Table T N M) (r : Kept label board s) (v : View M) (at : get_elem? s.views 0 ≡ some v) (all : HasAll v) (idle : v.turn ≡ 0) (free : v.claimed ≡ None) (empty : v.hand ≡ None) where
  alone : (f : View M → ℕ) → f spent ≡ 0 → f v ≡ 0 → total f s.views ≡ 0
  alone f z mine = total-alone f s.views v at (λ j u e other. ap f (others_spent s.words s.views r.0 v at all j u e other) ∙ z) ∙ mine

  pub net_home : (x : N) × (get_elem? s.homes 0 ≡ some (some (Net x))) × (label x ≡ board)
  net_home = r.1.net (sym r.0.turns ∙ alone (λ u. u.turn) refl idle)

  slot_home : (k : ℕ) → k + 1 < length s.homes → ((get_elem? s.homes (k + 1) ≡ some (some Nothing)) × (word_of s.words k % 4 ≡ 0)) ⊎ ((y : T) × (get_elem? s.homes (k + 1) ≡ some (some (Piece y))) × (word_of s.words k % 2 ≡ 1))
  slot_home k inside = let w : ℕ = word_of s.words k in let fits = r.1.slots k inside in let out = alone (λ u. in_hand k u.hand) refl (ap (in_hand k) empty) in
      dite (ℕ_discrete (w % 4) 0) (λ e. inl (fits.1 e out, e)) (λ e. dite (ℕ_discrete (w % 4) 1) (λ f. inr ((fits.0 f).0, (fits.0 f).1, omega arith)) (λ f. dite (ℕ_discrete (w % 4) 3) (λ g. inr ((fits.2 g out).0, (fits.2 g out).1, omega arith))
      (λ g. absurd (let q : ℕ = w / 4 in let none_held = alone (λ u. one_if k q u.claimed) refl (ap (one_if k q) free) in let c = r.0.claimed k q in let is : w ≡ 4 * q + 2 = omega arith in omega arith))))

-- a closed table: the state that it ended in, seen by chair 0, and what its places have
module _ {T N M : Type 0} (label : N → M) (board : M) (v : View M) (xs : List (Content T N)) where
  pub record EndsAs (s : Table T N M) : Type 0 where
    pub kept : Kept label board s
    pub at : get_elem? s.views 0 ≡ some v
    pub long : length s.homes ≡ length xs
    pub places : (k : ℕ) (y : Content T N) → get_elem? s.homes k ≡ some (some y) → get_elem? xs k ≡ some y

  module _ (all : HasAll v) (rests : HoldsNothing v) (s : Table T N M) (end : EndsAs s) where
    pub net_left : (x : N) × (get_elem? xs 0 ≡ some (Net x)) × (label x ≡ board) × (get_elem? s.homes 0 ≡ some (some (Net x)))
    net_left = let n = net_home label board s end.kept v end.at all rests.0 rests.1 rests.2 in (n.0, end.places 0 (Net n.0) n.1, n.2, n.1)

    pub others_are_spent : OthersSpent s.views
    others_are_spent = others_spent s.words s.views end.kept.0 v end.at all

    -- the slot k has a piece where its word is FULL or BACK, and else nothing
    pub slot_left : (k : ℕ) → k + 1 < length xs → (c : Content T N) → get_elem? xs (k + 1) ≡ some c → left_at k (word_of s.words k) (get_elem? s.homes (k + 1)) ≡ piece_of k c
    slot_left k inside c is = let long = end.long in let w : ℕ = word_of s.words k in ⊎_elim
        (λ (t : (get_elem? s.homes (k + 1) ≡ some (some Nothing)) × (w % 4 ≡ 0)). let e : Nothing ≡ c = some-injective _ _ (sym (end.places (k + 1) Nothing t.0) ∙ is) in ap (left_at k w) t.0 ∙ ap (piece_of k) e)
        (λ (t : (y : T) × (get_elem? s.homes (k + 1) ≡ some (some (Piece y))) × (w % 2 ≡ 1)). let e : Piece t.0 ≡ c = some-injective _ _ (sym (end.places (k + 1) (Piece t.0) t.1) ∙ is) in
        ap (left_at k w) t.1 ∙ ap (λ b. cond b ((k, t.0) ∷ []) []) (eq-eqb (w % 2) 1 t.2) ∙ ap (piece_of k) e)
        (slot_home label board s end.kept v end.at all rests.0 rests.1 rests.2 k (omega arith))

    pub left_more : (k : ℕ) → k + 1 < length xs → (c : Content T N) → get_elem? xs (k + 1) ≡ some c → left_in s (k + 1) ≡ left_in s k ++ piece_of k c
    left_more k inside c is = ap (left_in s) (let e : k + 1 ≡ suc k = omega arith in e) ∙ ap (λ l. left_in s k ++ l) (slot_left k inside c is)

-- one slot is emptied
pub others_filled : (fs : List Bool) (i k : ℕ) → k ≢ i → get_or fs k false ≡ true → get_or (set fs i false) k false ≡ true
others_filled fs i k other e = get_or-set_other fs i k false false other ∙ e

pub now_empty : (fs : List Bool) (i k : ℕ) → (k < i → get_or fs k false ≡ false) → k < i + 1 → get_or (set fs i false) k false ≡ false
now_empty fs i k before l = dite (ℕ_discrete k i)
    (λ (e : k ≡ i). subst (λ (j : ℕ). get_or (set fs i false) j false ≡ false) (sym e) (emptied fs i))
    (λ other. get_or-set_other fs i k false false other ∙ before (omega arith))
  where
    emptied : (fs : List Bool) (i : ℕ) → get_or (set fs i false) i false ≡ false
    emptied [] i = refl
    emptied (x ∷ xs) zero = refl
    emptied (x ∷ xs) (suc i) = emptied xs i

net_or : {T N : Type 0} → N → Content T N → N
net_or d (Net x) = x
net_or d _ = d

pub same_net : {T N : Type 0} (a b : N) (c d : Content T N) → c ≡ Net a → d ≡ Net b → c ≡ d → a ≡ b
unfolding net_or
same_net a b c d is is' e = ap (net_or a) (sym is ∙ e ∙ is')

-- what `close_with` says of the last state
pub ended : {T N M : Type 0} (label : N → M) (board : M) (id : ℕ) (v : View M) (words : List ℕ) (xs : List (Content T N)) → id ≡ 0 → Final (Seen (Kept label board) id v) words xs → (s : Table T N M) × EndsAs label board v xs s
ended label board id v words xs first end = (end.0, record { kept = end.1.0; at = ap (get_elem? end.0.views) (sym first) ∙ end.1.1; long = end.3; places = end.4 })
