-- What holds of each element of a list, and names that stand from a number on.
use Rattle.std.proofs.Common.{ℕ, suc, ◌+◌, ◌≡◌, List, [], ◌∷◌, ◌++◌, Option, Some, None, length, refl, subst, sym, arith}
use Rattle.std.specs.List.{All}
use Rattle.std.specs.Option.{option_or}
use Rattle.std.proofs.lemmas.List.Elements.{All-nil, All-cons}

abbrev pub Each : {T : Type 0} → (T → Type 0) → List T → Type 0
Each P [] = Unit {0}
Each P (t ∷ ts) = P t × Each P ts

pub each_same : {T : Type 0} (P : T → Type 0) (xs ys : List T) → xs ≡ ys → Each P ys → Each P xs
each_same P xs ys e h = subst (λ l. Each P l) (sym e) h

pub each_of_both : {T : Type 0} (P : T → Type 0) (xs ys : List T) → Each P xs → Each P ys → Each P (xs ++ ys)
each_of_both P [] ys p q = q
each_of_both P (x ∷ xs) ys p q = (p.0, each_of_both P xs ys p.1 q)

pub each_of_first : {T : Type 0} (P : T → Type 0) (xs ys : List T) → Each P (xs ++ ys) → Each P xs
each_of_first P [] ys p = tt
each_of_first P (x ∷ xs) ys p = (p.0, each_of_first P xs ys p.1)

pub each_of_second : {T : Type 0} (P : T → Type 0) (xs ys : List T) → Each P (xs ++ ys) → Each P ys
each_of_second P [] ys p = p
each_of_second P (x ∷ xs) ys p = each_of_second P xs ys p.1

pub at_place : {T : Type 0} (P : T → Type 0) (all outer : List T) (t : T) (inner : List T) → all ≡ outer ++ t ∷ inner → Each P all → P t
at_place P all outer t inner e p = (each_of_second P outer (t ∷ inner) (subst (λ l. Each P l) e p)).0

pub neither : {T : Type 0} (o p : Option T) → option_or o p ≡ None → (o ≡ None) × (p ≡ None)
neither None p e = (refl, e)
neither (Some x) p e = absurd (cc e)

-- the names of these are those of the numbers from the given one on
abbrev pub AreFrom : {T : Type 0} → (T → List ℕ) → (ℕ → List ℕ) → ℕ → List T → Type 0
AreFrom name numbered at [] = Unit {0}
AreFrom name numbered at (t ∷ ts) = (numbered at ≡ name t) × AreFrom name numbered (suc at) ts

pub earlier : {T : Type 0} (name : T → List ℕ) (numbered : ℕ → List ℕ) (at : ℕ) (xs ys : List T) → AreFrom name numbered at (xs ++ ys) → AreFrom name numbered at xs
earlier name numbered at [] ys p = tt
earlier name numbered at (x ∷ xs) ys p = (p.0, earlier name numbered (suc at) xs ys p.1)

pub later : {T : Type 0} (name : T → List ℕ) (numbered : ℕ → List ℕ) (at : ℕ) (xs ys : List T) (next : ℕ) → next ≡ at + length xs → AreFrom name numbered at (xs ++ ys) → AreFrom name numbered next ys
later name numbered at [] ys next e p = let same : at ≡ next = omega (arith, e) in subst (λ i. AreFrom name numbered i ys) same p
later name numbered at (x ∷ xs) ys next e p = let f : next ≡ suc at + length xs = omega (arith, e) in later name numbered (suc at) xs ys next f p.1

pub all_of_each : {T : Type 0} (P : T → Type 0) (xs : List T) → Each P xs → All P xs
all_of_each P [] h = All-nil P
all_of_each P (x ∷ xs) h = All-cons P x xs h.0 (all_of_each P xs h.1)
