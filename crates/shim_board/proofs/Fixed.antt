-- What all chairs have put, claimed and collected fixes the slots in which a closed board leaves pieces.
use Rattle.std.proofs.Common.{◌≡◌, ◌⊎◌, inl, inr, ⊎_elim, ℕ, zero, suc, ◌+◌, ◌*◌, ◌/◌, ◌%◌, ◌<◌, ◌≤◌, ◌==◌, cond, eq-eqb, ne_eqb, map, List, [], ◌∷◌, ◌++◌, length, refl, sym, ap, ◌∙◌, arith, Option, Some, None}
use mathlib.Core.Logic.{dite}
use Rattle.std.proofs.lemmas.Option.{none-some}
use mathlib.Core.Option.{some, some-injective}
use native.Mathlib.Decide.{ℕ_discrete}
use lib.ListN.{get_elem?}
use Rattle.shim_base.specs.declared.named.Named.{Ghosts}
use Rattle.shim_board.specs.declared.board.Board.{Board}
use Rattle.shim_board.specs.declared.chair.Chair.{Chair}
use Rattle.shim_board.specs.declared.view.View.{View}
use Rattle.shim_board.specs.Counting.{one_below, times}
use Rattle.shim_base.specs.Lists.{total}
use Rattle.shim_board.specs.Views.{spent}
use Rattle.shim_board.specs.Kept.{word_of, Table}
use Rattle.shim_board.specs.Rule.{IsOutOfHand, HasPiece}
use Rattle.shim_board.specs.Chairs.{name_of, slots_of, view_of}
use Rattle.shim_board.specs.Closing.{left_at, left_in, IsLast, HasAllOf, AreLeft}
use Rattle.shim_board.proofs.Totals.{total-has}
use Rattle.shim_board.proofs.Ends.{total-alone}
use Rattle.shim_board.proofs.RuleHolds.{total-some}

-- a word that isn't TAKEN is fixed by the steps that it has passed
fixed : (w x : ℕ) → ((r : ℕ) → one_below (4 * r) w ≡ one_below (4 * r) x) → ((r : ℕ) → one_below (4 * r + 1) w ≡ one_below (4 * r + 1) x) → ((r : ℕ) → one_below (4 * r + 3) w ≡ one_below (4 * r + 3) x)
    → (w % 4 ≡ 2 → ⊥) → (x % 4 ≡ 2 → ⊥) → w ≡ x
fixed w x puts claims collections not not' = let a = puts (w / 4) in let a' = puts (x / 4) in let b = claims (w / 4) in let b' = claims (x / 4) in let d = collections (w / 4) in let d' = collections (x / 4) in
    dite (ℕ_discrete (w % 4) 2) (λ e. absurd (not e)) (λ n. dite (ℕ_discrete (x % 4) 2) (λ e. absurd (not' e)) (λ n'. omega arith))

-- how far a word is that has passed a step
behind_empty : (w r : ℕ) → r ≡ w / 4 → (w % 4 ≡ 0 → ⊥) → 4 * r < w
behind_empty w r is not = dite (ℕ_discrete (w % 4) 0) (λ e. absurd (not e)) (λ other. omega arith)

behind_full : (w r : ℕ) → (r < w / 4) ⊎ ((r ≡ w / 4) × ((w % 4 ≡ 2) ⊎ (w % 4 ≡ 3))) → 4 * r + 1 < w
behind_full w r (inl low) = omega arith
behind_full w r (inr (is, inl two)) = omega arith
behind_full w r (inr (is, inr three)) = omega arith

behind_back : (w r : ℕ) → r < w / 4 → 4 * r + 3 < w
behind_back w r low = omega arith

-- what one chair has where the word has passed n, and none elsewhere
counted : {V : Type 0} (f : V → ℕ) (views : List V) (n w : ℕ) → total f views ≤ 1 → (n < w → (j : ℕ) × (u : V) × (get_elem? views j ≡ some u) × (0 < f u)) → ((j : ℕ) (u : V) → get_elem? views j ≡ some u → 0 < f u → n < w)
    → one_below n w ≡ total f views
counted f views n w few some_one passed = dite (ℕ_discrete (total f views) 0)
    (λ none_has. dite (ℕ_discrete (one_below n w) 0) (λ z. omega arith) (λ far. absurd (let one = some_one (omega arith) in let h = total-has f views one.0 one.1 one.2 in let p = one.3 in omega arith)))
    (λ one_has. let one = total-some f views (omega arith) in let low = passed one.0 one.1 one.2 one.3 in omega arith)

map-append : {A B : Type 0} (f : A → B) (xs ys : List A) → map f (xs ++ ys) ≡ map f xs ++ map f ys
map-append f [] ys = refl
map-append f (x ∷ xs) ys = ap (λ l. f x ∷ l) (map-append f xs ys)

abbrev slot_of : {T : Type 0} → ℕ × T → ℕ
slot_of p = p.0

-- the slots below n that are FULL or BACK
abbrev standing : List ℕ → ℕ → List ℕ
standing words zero = []
standing words (suc n) = standing words n ++ cond (word_of words n % 2 == 1) (n ∷ []) []

same_standing : (words words' : List ℕ) (n : ℕ) → ((k : ℕ) → word_of words k ≡ word_of words' k) → standing words n ≡ standing words' n
same_standing words words' zero same = refl
same_standing words words' (suc n) same = λ i. (same_standing words words' n same) i ++ cond ((same n) i % 2 == 1) (n ∷ []) []

module _ {T N M : Type 0} {g : Ghosts N M} (b : Board T N M) (chairs : List (Chair T N M g)) where
  module _ (v : View M) (has : HasAllOf v chairs) (s : Table T N M) (last : IsLast g.name b v s) where
    alone : (f : View M → ℕ) → f spent ≡ 0 → total f s.views ≡ f v
    alone f z = total-alone f s.views v last.first (λ j u e other. ap f (last.others j u e other) ∙ z)

    -- a chair that has a slot in hand or claimed would be chair 0, which has none, or spent
    held_by_none : (f : View M → Option (ℕ × ℕ)) → f v ≡ None → f spent ≡ None → (j : ℕ) (u : View M) → get_elem? s.views j ≡ some u → (p : ℕ × ℕ) → f u ≡ Some p → ⊥
    held_by_none f mine theirs j u at p e = dite (ℕ_discrete j 0)
        (λ (zero_is : j ≡ 0). none-some p (sym mine ∙ ap f (some-injective v u (sym last.first ∙ ap (get_elem? s.views) (sym zero_is) ∙ at)) ∙ e))
        (λ other. none-some p (sym theirs ∙ ap f (sym (last.others j u at other)) ∙ e))

    not_taken : (k : ℕ) → word_of s.words k % 4 ≡ 2 → ⊥
    not_taken k is = let one = last.rule.taken_by_one k is in held_by_none (λ u. u.claimed) has.idle.1 refl one.0 one.1 one.2 _ one.3

    out : (k : ℕ) → IsOutOfHand g.name (name_of g.name b) s k
    out k j u at x e = held_by_none (λ w. w.hand) has.idle.2 refl j u at (k, x) e

    puts : (k r : ℕ) → one_below (4 * r) (word_of s.words k) ≡ total (λ c. times k r (view_of c).puts) chairs
    puts k r = counted (λ u. times k r u.puts) s.views (4 * r) (word_of s.words k) (last.rule.differ k r).0 (λ low. let one = last.rule.put_by_one k r low in (one.0, one.1, one.2, one.3))
        (λ j u at h. let w : ℕ = word_of s.words k in ⊎_elim (λ (e : r < w / 4). let l : 4 * r < w = omega arith in l) (λ (e : (r ≡ w / 4) × (w % 4 ≡ 0 → ⊥)). behind_empty w r e.0 e.1) (last.rule.puts j u at k r h))
        ∙ alone (λ u. times k r u.puts) refl ∙ has.puts k r

    claims : (k r : ℕ) → one_below (4 * r + 1) (word_of s.words k) ≡ total (λ c. times k r (view_of c).claims) chairs
    claims k r = counted (λ u. times k r u.claims) s.views (4 * r + 1) (word_of s.words k) (last.rule.differ k r).1 (λ low. let one = last.rule.claimed_by_one k r low in (one.0, one.1, one.2, one.3))
        (λ j u at h. behind_full (word_of s.words k) r (last.rule.claims j u at k r h))
        ∙ alone (λ u. times k r u.claims) refl ∙ has.claims k r

    collections : (k r : ℕ) → one_below (4 * r + 3) (word_of s.words k) ≡ total (λ c. times k r (view_of c).collections) chairs
    collections k r = counted (λ u. times k r u.collections) s.views (4 * r + 3) (word_of s.words k) (last.rule.differ k r).2 (λ low. let one = last.rule.collected_by_one k r low in (one.0, one.1, one.2, one.3))
        (λ j u at h. behind_back (word_of s.words k) r (last.rule.collections j u at k r h))
        ∙ alone (λ u. times k r u.collections) refl ∙ has.collections k r

    with_piece : (k : ℕ) → HasPiece g.name (name_of g.name b) s k → word_of s.words k % 2 ≡ 1 → map slot_of (left_at k (word_of s.words k) (get_elem? s.homes (k + 1))) ≡ cond (word_of s.words k % 2 == 1) (k ∷ []) []
    with_piece k t odd = let w : ℕ = word_of s.words k in ap (λ o. map slot_of (left_at k w o)) t.1 ∙ ap (λ a. map slot_of (cond a ((k, t.0) ∷ []) [])) (eq-eqb (w % 2) 1 odd) ∙ sym (ap (λ a. cond a (k ∷ []) []) (eq-eqb (w % 2) 1 odd))

    one_left : (k : ℕ) → k + 1 < length s.homes → map slot_of (left_at k (word_of s.words k) (get_elem? s.homes (k + 1))) ≡ cond (word_of s.words k % 2 == 1) (k ∷ []) []
    one_left k inside = let w : ℕ = word_of s.words k in
        dite (ℕ_discrete (w % 4) 0)
        (λ empty. ap (λ o. map slot_of (left_at k w o)) (last.rule.empty k inside empty (out k)) ∙ sym (ap (λ a. cond a (k ∷ []) []) (ne_eqb (w % 2) 1 (λ e. omega arith))))
        (λ n0. dite (ℕ_discrete (w % 4) 1) (λ full. with_piece k (last.rule.full k inside full) (omega arith))
        (λ n1. dite (ℕ_discrete (w % 4) 3) (λ back. with_piece k (last.rule.back k inside back (out k)) (omega arith))
        (λ n3. absurd (not_taken k (omega arith)))))

    standing_is : (n : ℕ) → n ≤ slots_of b → map slot_of (left_in s n) ≡ standing s.words n
    standing_is zero low = refl
    standing_is (suc n) low = let places = last.places in map-append slot_of (left_in s n) (left_at n (word_of s.words n) (get_elem? s.homes (n + 1))) ∙ (λ i. (standing_is n (omega arith)) i ++ (one_left n (omega arith)) i)

  pub same_slots : (net net' : N) (left left' : List (ℕ × T)) → AreLeft b chairs net left → AreLeft b chairs net' left' → map (λ p. p.0) left ≡ map (λ p. p.0) left'
  same_slots net net' left left' a a' = let same : (k : ℕ) → word_of a.2.0.words k ≡ word_of a'.2.0.words k = λ k. fixed (word_of a.2.0.words k) (word_of a'.2.0.words k)
      (λ r. puts a.0 a.1 a.2.0 a.2.1 k r ∙ sym (puts a'.0 a'.1 a'.2.0 a'.2.1 k r)) (λ r. claims a.0 a.1 a.2.0 a.2.1 k r ∙ sym (claims a'.0 a'.1 a'.2.0 a'.2.1 k r))
      (λ r. collections a.0 a.1 a.2.0 a.2.1 k r ∙ sym (collections a'.0 a'.1 a'.2.0 a'.2.1 k r)) (not_taken a.0 a.1 a.2.0 a.2.1 k) (not_taken a'.0 a'.1 a'.2.0 a'.2.1 k) in
      ap (map slot_of) a.2.3 ∙ standing_is a.0 a.1 a.2.0 a.2.1 (slots_of b) (omega arith) ∙ same_standing a.2.0.words a'.2.0.words (slots_of b) same ∙ sym (standing_is a'.0 a'.1 a'.2.0 a'.2.1 (slots_of b) (omega arith)) ∙ sym (ap (map slot_of) a'.2.3)
