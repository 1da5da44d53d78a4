-- Places in a list, and what is left of it.
use Rattle.std.proofs.Common.{◌≡◌, ◌<◌, ◌≤◌, ◌⊎◌, ◌+◌, inl, inr, ℕ, zero, suc, Some, List, [], ◌∷◌, ◌++◌, drop, length, refl, sym, ap, ◌∙◌, arith}
use Rattle.std.specs.Prelude.{slice_get}
use Rattle.shim_base.proofs.Facts.{some_same, none_some}

pub last_or_before : (i j : ℕ) → i < j + 1 → (i < j) ⊎ (i ≡ j)
last_or_before zero zero h = inr refl
last_or_before zero (suc j) h = inl (omega arith)
last_or_before (suc i) zero h = absurd (omega (arith, h))
last_or_before (suc i) (suc j) h = elim (last_or_before i j (omega (arith, h))) [ inl w ↦ inl (omega (arith, w)) | inr w ↦ inr (ap suc w) ]

pub drop_one : {A : Type 0} (xs : List A) (at : ℕ) (x : A) → slice_get xs at ≡ Some x → drop at xs ≡ x ∷ drop (at + 1) xs
drop_one [] at x e = none_some x e
drop_one (y ∷ xs) zero x e = ap (λ z. z ∷ xs) (some_same y x e)
drop_one (y ∷ xs) (suc at) x e = let same : suc at + 1 ≡ suc (at + 1) = omega arith in drop_one xs at x e ∙ ap (λ n. x ∷ drop n (y ∷ xs)) (sym same)

pub drop_all : {A : Type 0} (xs : List A) (i : ℕ) → length xs ≤ i → drop i xs ≡ []
drop_all [] zero h = refl
drop_all [] (suc i) h = refl
drop_all (x ∷ xs) zero h = absurd (omega (arith, h))
drop_all (x ∷ xs) (suc i) h = drop_all xs i (omega (arith, h))

pub one_longer : {A : Type 0} (xs : List A) (x : A) → length (xs ++ x ∷ []) ≡ length xs + 1
one_longer [] x = refl
one_longer (y ∷ xs) x = let w = one_longer xs x in omega (arith, w)

pub get_either : {A : Type 0} (xs : List A) (y x : A) (i : ℕ) → slice_get (xs ++ y ∷ []) i ≡ Some x → (slice_get xs i ≡ Some x) ⊎ ((i ≡ length xs) × (x ≡ y))
get_either [] y x zero e = inr (refl, sym (some_same y x e))
get_either [] y x (suc i) e = none_some x e
get_either (z ∷ xs) y x zero e = inl e
get_either (z ∷ xs) y x (suc i) e = elim (get_either xs y x i e) [ inl w ↦ inl w | inr w ↦ inr (ap suc w.0, w.1) ]
