-- Sums over all views, and counts in lists.
use Rattle.std.proofs.Common.{◌≡◌, ◌≢◌, ℕ, zero, suc, ◌+◌, ◌<◌, ◌≤◌, cond, eq-eqb, ne_eqb, subst, List, [], ◌∷◌, ◌++◌, All, length, take, drop, get_or, set, refl, sym, ap, ◌∙◌, arith}
use mathlib.Core.Logic.{dite}
use native.Mathlib.Decide.{ℕ_discrete}
use mathlib.Core.Option.{some, some-injective, some-ne-none}
use lib.ListN.{get_elem?}
use Rattle.shim_board.specs.declared.view.View.{View}
use Rattle.shim_board.specs.Counting.{times, without, occurs, Each}
use Rattle.shim_base.specs.Lists.{total}
use Rattle.shim_board.specs.Kept.{chair_count}

module _ {V : Type 0} (f : V → ℕ) where
  pub total-set : (l : List V) (i : ℕ) (v w : V) → get_elem? l i ≡ some v → total f (set l i w) + f v ≡ total f l + f w
  total-set [] i v w e = absurd (some-ne-none v (sym e))
  total-set (x ∷ xs) zero v w e = let is : f x ≡ f v = ap f (some-injective x v e) in omega arith
  total-set (x ∷ xs) (suc i) v w e = let r = total-set xs i v w e in omega arith

  pub total-has : (l : List V) (i : ℕ) (v : V) → get_elem? l i ≡ some v → f v ≤ total f l
  total-has [] i v e = absurd (some-ne-none v (sym e))
  total-has (x ∷ xs) zero v e = let is : f x ≡ f v = ap f (some-injective x v e) in omega arith
  total-has (x ∷ xs) (suc i) v e = let r = total-has xs i v e in omega arith

  pub total-two : (l : List V) (i j : ℕ) (u v : V) → get_elem? l i ≡ some u → get_elem? l j ≡ some v → i ≢ j → f u + f v ≤ total f l
  total-two [] i j u v e e' other = absurd (some-ne-none u (sym e))
  total-two (x ∷ xs) zero zero u v e e' other = absurd (other refl)
  total-two (x ∷ xs) zero (suc j) u v e e' other = let is : f x ≡ f u = ap f (some-injective x u e) in let le = total-has xs j v e' in omega arith
  total-two (x ∷ xs) (suc i) zero u v e e' other = let is : f x ≡ f v = ap f (some-injective x v e') in let le = total-has xs i u e in omega arith
  total-two (x ∷ xs) (suc i) (suc j) u v e e' other = let le = total-two xs i j u v e e' (λ h. other (ap suc h)) in omega arith

  pub total-none : (l : List V) → ((j : ℕ) (v : V) → get_elem? l j ≡ some v → f v ≡ 0) → total f l ≡ 0
  total-none [] each = refl
  total-none (x ∷ xs) each = let h = each 0 x refl in let t = total-none xs (λ j v e. each (suc j) v e) in omega arith

  pub total-snoc : (l : List V) (v : V) → total f (l ++ v ∷ []) ≡ total f l + f v
  total-snoc [] v = omega arith
  total-snoc (x ∷ xs) v = let r = total-snoc xs v in omega arith

pub times-append : (k r : ℕ) (xs ys : List (ℕ × ℕ)) → times k r (xs ++ ys) ≡ times k r xs + times k r ys
times-append k r [] ys = omega arith
times-append k r (x ∷ xs) ys = let h = times-append k r xs ys in omega arith

pub without-same : (k r : ℕ) (xs : List (ℕ × ℕ)) → times k r (without k xs) ≡ 0
without-same k r [] = refl
without-same k r (p ∷ ps) = let h = without-same k r ps in dite (ℕ_discrete p.0 k)
    (λ e. subst (λ b. times k r (cond b (without k ps) (p ∷ without k ps)) ≡ 0) (sym (eq-eqb p.0 k e)) h)
    (λ ne. subst (λ b. times k r (cond b (without k ps) (p ∷ without k ps)) ≡ 0) (sym (ne_eqb p.0 k ne)) (omega arith))

pub without-else : (k j r : ℕ) (xs : List (ℕ × ℕ)) → times j r (without k xs) ≤ times j r xs
without-else k j r [] = omega arith
without-else k j r (p ∷ ps) = let h = without-else k j r ps in dite (ℕ_discrete p.0 k)
    (λ e. subst (λ b. times j r (cond b (without k ps) (p ∷ without k ps)) ≤ times j r (p ∷ ps)) (sym (eq-eqb p.0 k e)) (omega arith))
    (λ ne. subst (λ b. times j r (cond b (without k ps) (p ∷ without k ps)) ≤ times j r (p ∷ ps)) (sym (ne_eqb p.0 k ne)) (omega arith))

pub occurs-append : (x : ℕ) (xs ys : List ℕ) → occurs x (xs ++ ys) ≡ occurs x xs + occurs x ys
occurs-append x [] ys = omega arith
occurs-append x (n ∷ ns) ys = let h = occurs-append x ns ys in omega arith

pub count_of-set : {M : Type 0} (l : List (View M)) (i : ℕ) (v w : View M) → get_elem? l i ≡ some v → w.count ≡ v.count → chair_count (set l i w) ≡ chair_count l
count_of-set {M} [] i v w e same = refl
count_of-set {M} (x ∷ xs) zero v w e same = same ∙ ap (λ (u : View M). u.count) (sym (some-injective x v e))
count_of-set {M} (x ∷ xs) (suc i) v w e same = refl

pub each-snoc : {V : Type 0} (P : V → Type 0) (xs : List V) (x : V) → Each P (xs ++ x ∷ []) → Each P xs × P x
each-snoc P [] x h = (tt, h.0)
each-snoc P (y ∷ ys) x h = let r = each-snoc P ys x h.1 in ((h.0, r.0), r.1)

pub each-add : {V : Type 0} (P : V → Type 0) (xs : List V) (x : V) → Each P xs → P x → Each P (xs ++ x ∷ [])
each-add P [] x h p = (p, tt)
each-add P (y ∷ ys) x h p = (h.0, each-add P ys x h.1 p)

-- one element is taken out
total-removed : {V : Type 0} (f : V → ℕ) (xs : List V) (at : ℕ) (d : V) → at < length xs → total f (take at xs ++ drop (suc at) xs) + f (get_or xs at d) ≡ total f xs
total-removed f [] at d inside = absurd (omega arith)
total-removed f (x ∷ xs) zero d inside = omega arith
total-removed f (x ∷ xs) (suc at) d inside = let r = total-removed f xs at d (omega arith) in omega arith

each-removed : {V : Type 0} (P : V → Type 0) (xs : List V) (at : ℕ) (d : V) → at < length xs → Each P xs → Each P (take at xs ++ drop (suc at) xs) × P (get_or xs at d)
each-removed P [] at d inside h = absurd (omega arith)
each-removed P (x ∷ xs) zero d inside h = (h.1, h.0)
each-removed P (x ∷ xs) (suc at) d inside h = let r = each-removed P xs at d (omega arith) h.1 in ((h.0, r.0), r.1)

pub total-remove : {V : Type 0} (f : V → ℕ) (xs : List V) (at : ℕ) (d : V) → at < length xs → total f (take at xs ++ drop (at + 1) xs) + f (get_or xs at d) ≡ total f xs
total-remove f xs at d inside = subst (λ n. total f (take at xs ++ drop n xs) + f (get_or xs at d) ≡ total f xs) (let e : suc at ≡ at + 1 = omega arith in e) (total-removed f xs at d inside)

pub each-remove : {V : Type 0} (P : V → Type 0) (xs : List V) (at : ℕ) (d : V) → at < length xs → Each P xs → Each P (take at xs ++ drop (at + 1) xs) × P (get_or xs at d)
each-remove P xs at d inside h = subst (λ n. Each P (take at xs ++ drop n xs) × P (get_or xs at d)) (let e : suc at ≡ at + 1 = omega arith in e) (each-removed P xs at d inside h)

-- what holds at each index, and of each element
pub each-all : {V : Type 0} (P : V → Type 0) (xs : List V) → Each P xs → All P xs
each-all P [] h k d l = absurd (omega arith)
each-all P (x ∷ xs) h zero d l = h.0
each-all P (x ∷ xs) h (suc k) d l = each-all P xs h.1 k d (omega arith)

pub all-each : {V : Type 0} (P : V → Type 0) (xs : List V) → All P xs → Each P xs
all-each P [] h = tt
all-each P (x ∷ xs) h = (h 0 x (omega arith), all-each P xs (λ k d l. h (suc k) d (omega arith)))
