-- A list cut in two, and what a push changes of its parts.
use Rattle.std.proofs.Common.{◌≡◌, ◌≤◌, ◌++◌, List, [], ◌∷◌, length, take, drop, ℕ}
use Rattle.std.proofs.lemmas.List.{take-append-drop, take-append-le, drop-append-le}

pub seam : {A : Type 0} (n : ℕ) (xs : List A) → take n xs ++ drop n xs ≡ xs
seam n xs = take-append-drop n xs

pub pushed_inside : {A : Type 0} (n : ℕ) (xs : List A) (x : A) → n ≤ length xs → drop n (xs ++ x ∷ []) ≡ drop n xs ++ x ∷ []
pushed_inside n xs x h = drop-append-le n xs (x ∷ []) h

pub pushed_outside : {A : Type 0} (n : ℕ) (xs : List A) (x : A) → n ≤ length xs → take n (xs ++ x ∷ []) ≡ take n xs
pushed_outside n xs x h = take-append-le n xs (x ∷ []) h
