-- What is among the numbers of a list, and at which place.
use Rattle.std.proofs.Common.{ℕ, zero, suc, ◌+◌, ◌<◌, ◌≡◌, ◌∙◌, ◌⊎◌, Bool, true, false, not, ◌||◌, List, [], ◌∷◌, ◌++◌, cond, length, nat_eq, eqb-true, inl, inr, refl, sym, ap, subst, arith}
use Rattle.std.specs.List.{filter}
use Rattle.std.proofs.lemmas.Bool.Decides.{eqb_tells}
use Rattle.shim_units.specs.Lifting.{is_among}
use Rattle.shim_units.specs.Moving.{slot_index_of, slot_indices_of}
use Rattle.shim_units.specs.Units.{upto}
use Rattle.shim_laws_sources.proofs.Placing.{among_more, index_of, found, place_is}
use Rattle.shim_base.proofs.Facts.{both_hold, either_holds}
use Rattle.shim_laws_stops.specs.InForce.{are_among}

abbrev pub Among : List ℕ → ℕ → Type 0
Among xs x = is_among xs x ≡ true

pub same_number : (x : ℕ) (b : Bool) → (nat_eq x x || b) ≡ true
same_number x b = elim (eqb_tells x x) [ inl e ↦ ap (λ (a : Bool). a || b) e.0 | inr e ↦ absurd (e.1 refl) ]

pub first_of : (x : ℕ) (xs : List ℕ) → Among (x ∷ xs) x
first_of x xs = same_number x (is_among xs x)

pub among_behind : (y : ℕ) (xs : List ℕ) (x : ℕ) → Among xs x → Among (y ∷ xs) x
among_behind y xs x h = among_more (nat_eq y x) (is_among xs x) h

-- it is the first one, or among the others
pub among_cases : (y : ℕ) (xs : List ℕ) (x : ℕ) → Among (y ∷ xs) x → (y ≡ x) ⊎ Among xs x
among_cases y xs x h = elim (either_holds (nat_eq y x) (is_among xs x) h) [ inl e ↦ inl (eqb-true y x e) | inr e ↦ inr e ]

pub none_among : {A : Type 0} (x : ℕ) → Among [] x → A
none_among x h = absurd (cc h)

pub among_first : (xs ys : List ℕ) (x : ℕ) → Among xs x → Among (xs ++ ys) x
among_first [] ys x h = none_among x h
among_first (y ∷ xs) ys x h = elim (among_cases y xs x h) [
  | inl e ↦ subst (λ z. Among ((y ∷ xs) ++ ys) z) e (first_of y (xs ++ ys))
  | inr e ↦ among_behind y (xs ++ ys) x (among_first xs ys x e)
]

pub among_second : (xs ys : List ℕ) (x : ℕ) → Among ys x → Among (xs ++ ys) x
among_second [] ys x h = h
among_second (y ∷ xs) ys x h = among_behind y (xs ++ ys) x (among_second xs ys x h)

pub among_either : (xs ys : List ℕ) (x : ℕ) → Among (xs ++ ys) x → Among xs x ⊎ Among ys x
among_either [] ys x h = inr h
among_either (y ∷ xs) ys x h = elim (among_cases y (xs ++ ys) x h) [
  | inl e ↦ inl (subst (λ z. Among (y ∷ xs) z) e (first_of y xs))
  | inr e ↦ elim (among_either xs ys x e) [ inl f ↦ inl (among_behind y xs x f) | inr f ↦ inr f ]
]

-- those that pass a test

pass_by : (b : Bool) (y : ℕ) (xs : List ℕ) (x : ℕ) → Among xs x → Among (cond b (y ∷ xs) xs) x
pass_by true y xs x h = among_behind y xs x h
pass_by false y xs x h = h

first_by : (b : Bool) (y : ℕ) (xs : List ℕ) → b ≡ true → Among (cond b (y ∷ xs) xs) y
first_by true y xs h = first_of y xs
first_by false y xs h = absurd (cc h)

pub among_passed : (p : ℕ → Bool) (xs : List ℕ) (x : ℕ) → Among xs x → p x ≡ true → Among (filter p xs) x
among_passed p [] x h k = none_among x h
among_passed p (y ∷ xs) x h k = elim (among_cases y xs x h) [
  | inl e ↦ subst (λ z. Among (filter p (y ∷ xs)) z) e (first_by (p y) y (filter p xs) (ap p e ∙ k))
  | inr e ↦ pass_by (p y) y (filter p xs) x (among_passed p xs x e k)
]

record Passed (p : ℕ → Bool) (xs : List ℕ) (x : ℕ) : Type 0 where
  pub among : Among xs x
  pub passes : p x ≡ true

passed_by : (b : Bool) (p : ℕ → Bool) (y : ℕ) (xs : List ℕ) (x : ℕ) → p y ≡ b → (Among (filter p xs) x → Passed p xs x) → Among (cond b (y ∷ filter p xs) (filter p xs)) x → Passed p (y ∷ xs) x
passed_by true p y xs x is f h = elim (among_cases y (filter p xs) x h) [
  | inl e ↦ record { among = subst (λ z. Among (y ∷ xs) z) e (first_of y xs); passes = ap p (sym e) ∙ is }
  | inr e ↦ let w = f e in record { among = among_behind y xs x w.among; passes = w.passes }
]
passed_by false p y xs x is f h = let w = f h in record { among = among_behind y xs x w.among; passes = w.passes }

passed : (p : ℕ → Bool) (xs : List ℕ) (x : ℕ) → Among (filter p xs) x → Passed p xs x
passed p [] x h = none_among x h
passed p (y ∷ xs) x h = passed_by (p y) p y xs x refl (passed p xs x) h

pub was_among : (p : ℕ → Bool) (xs : List ℕ) (x : ℕ) → Among (filter p xs) x → Among xs x
was_among p xs x h = (passed p xs x h).among

pub passes : (p : ℕ → Bool) (xs : List ℕ) (x : ℕ) → Among (filter p xs) x → p x ≡ true
passes p xs x h = (passed p xs x h).passes

-- places

index_by : (b c : Bool) (m n : ℕ) → (c ≡ true → n < m) → (b || c) ≡ true → cond (not b) (1 + n) 0 < suc m
index_by true c m n f h = omega arith
index_by false c m n f h = let k = f h in omega (arith, k)

-- what is among the first is placed there
pub index_first : (xs ys : List ℕ) (x : ℕ) → Among xs x → index_of (xs ++ ys) x < length xs
index_first [] ys x h = none_among x h
index_first (y ∷ xs) ys x h = index_by (nat_eq y x) (is_among xs x) (length xs) (index_of (xs ++ ys) x) (index_first xs ys x) h

pub its_place : (all : List ℕ) (x : ℕ) → Among all x → slot_index_of all x ≡ index_of all x
its_place all x h = place_is all x (found all x h)

pub placed_first : (xs ys : List ℕ) (x : ℕ) → Among xs x → slot_index_of (xs ++ ys) x < length xs
placed_first xs ys x h = subst (λ n. n < length xs) (sym (its_place (xs ++ ys) x (among_first xs ys x h))) (index_first xs ys x h)

-- the first numbers

pub among_upto : (n i : ℕ) → i < n → Among (upto n) i
among_upto zero i h = absurd (omega (arith, h))
among_upto (suc n) i h = elim (eqb_tells n i) [
  | inl e ↦ among_second (upto n) (n ∷ []) i (subst (λ z. Among (n ∷ []) z) e.1 (first_of n []))
  | inr e ↦ among_first (upto n) (n ∷ []) i (among_upto n i (below n i h e.1))
]
  where
    below : (n i : ℕ) → i < suc n → (n ≡ i → ⊥) → i < n
    below n i h e = elim (split n i h) [ inl f ↦ f | inr f ↦ absurd (e f) ]
      where
        split : (n i : ℕ) → i < suc n → (i < n) ⊎ (n ≡ i)
        split zero zero h = inr refl
        split zero (suc i) h = absurd (omega (arith, h))
        split (suc n) zero h = inl (omega arith)
        split (suc n) (suc i) h = elim (split n i (omega (arith, h))) [ inl f ↦ inl (omega (arith, f)) | inr f ↦ inr (ap suc f) ]

pub under_upto : (n i : ℕ) → Among (upto n) i → i < n
under_upto zero i h = none_among i h
under_upto (suc n) i h = elim (among_either (upto n) (n ∷ []) i h) [
  | inl e ↦ let k = under_upto n i e in omega (arith, k)
  | inr e ↦ elim (among_cases n [] i e) [ inl f ↦ omega (arith, f) | inr f ↦ none_among i f ]
]

-- each of some

pub places_are_among : (all xs ys : List ℕ) → ((y : ℕ) → Among ys y → Among xs (slot_index_of all y)) → are_among xs (slot_indices_of all ys) ≡ true
places_are_among all xs [] f = refl
places_are_among all xs (y ∷ ys) f = both_hold (is_among xs (slot_index_of all y)) (are_among xs (slot_indices_of all ys)) (f y (first_of y ys)) (places_are_among all xs ys (λ z h. f z (among_behind y ys z h)))
