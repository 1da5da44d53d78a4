-- When the same is left to do from two numbers of a text, and lists that are read from their other ends.
use Rattle.std.proofs.Common.{◌≡◌, ◌≢◌, ◌↔◌, ◌≤◌, ◌<◌, ◌∙◌, ℕ, List, [], ◌∷◌, ◌++◌, map, reverse, refl, sym, ap, arith, ⊎_elim}
use Rattle.std.proofs.lemmas.Grind.{common_steps}
use Rattle.std.proofs.lemmas.List.{map-append, reverse-reverse}
use Rattle.std.proofs.lemmas.Bool.{cases_lt}
use Rattle.shim_units.specs.declared.unit.UStmt.{UStmt}
use Rattle.shim_walk_frames.specs.Successors.{size_all}
use Rattle.shim_walk_frames.specs.Pieces.{left_all}
use Rattle.shim_walk_frames.proofs.Goes.{ends, one_place}

-- after the last number of a text nothing is left, from whichever
pub both_after : (body : List UStmt) (p q : ℕ) → size_all body ≤ p → size_all body ≤ q → left_all body p ≡ left_all body q
both_after body p q hp hq = ends body p hp ∙ sym (ends body q hq)

-- where the same is left from two numbers, these are one, or both after the last
pub same_left : (body : List UStmt) (p q : ℕ) → left_all body p ≡ left_all body q → p ≢ q → (size_all body ≤ p) × (size_all body ≤ q)
same_left body p q e differ =
    ⊎_elim
    (λ lp. ⊎_elim (λ lq. absurd (inside lp lq)) (λ lq. absurd (one_out lp lq)) (cases_lt q (size_all body)))
    (λ lp. ⊎_elim (λ lq. absurd (other_out lp lq)) (λ lq. (lp, lq)) (cases_lt q (size_all body)))
    (cases_lt p (size_all body))
  where
    least : size_all body ≤ size_all body
    least = omega arith

    inside : p < size_all body → q < size_all body → ⊥
    inside lp lq =
        let hp : p ≤ size_all body = omega arith in
        let hq : q ≤ size_all body = omega arith in
        differ (one_place body p q hp hq e)

    one_out : p < size_all body → size_all body ≤ q → ⊥
    one_out lp lq =
        let hp : p ≤ size_all body = omega arith in
        let z = one_place body p (size_all body) hp least (e ∙ both_after body q (size_all body) lq least) in
        omega arith

    other_out : size_all body ≤ p → q < size_all body → ⊥
    other_out lp lq =
        let hq : q ≤ size_all body = omega arith in
        let z = one_place body (size_all body) q least hq (both_after body (size_all body) p least lp ∙ e) in
        omega arith

module _ {A B : Type 0} (f : A → B) where
  map_reverse : (xs : List A) → map f (reverse xs) ≡ reverse (map f xs)
  map_reverse [] = refl
  map_reverse (x ∷ xs) =
      let back : reverse (x ∷ xs) ≡ reverse xs ++ x ∷ [] = grind (arith, common_steps) in
      let mapped : reverse (f x ∷ map f xs) ≡ reverse (map f xs) ++ f x ∷ [] = grind (arith, common_steps) in
      ap (map f) back ∙ map-append f (reverse xs) (x ∷ []) ∙ ap (λ ys. ys ++ f x ∷ []) (map_reverse xs) ∙ sym mapped

  forth : (xs ys : List A) → map f xs ≡ map f ys → map f (reverse xs) ≡ map f (reverse ys)
  forth xs ys e = map_reverse xs ∙ ap reverse e ∙ sym (map_reverse ys)

  back : (xs ys : List A) → map f (reverse xs) ≡ map f (reverse ys) → map f xs ≡ map f ys
  back xs ys e = sym (reverse-reverse (map f xs)) ∙ ap reverse (sym (map_reverse xs) ∙ e ∙ map_reverse ys) ∙ reverse-reverse (map f ys)

  -- two lists that look alike from one end look alike from the other
  pub turned : (xs ys xs' ys' : List A) → reverse xs ≡ xs' → reverse ys ≡ ys' → (map f xs ≡ map f ys) ↔ (map f xs' ≡ map f ys')
  turned xs ys xs' ys' ex ey = (λ e. ap (map f) (sym ex) ∙ forth xs ys e ∙ ap (map f) ey, λ e. back xs ys (ap (map f) ex ∙ e ∙ ap (map f) (sym ey)))
