-- What uses name and declare, lists without a number twice, and the places of numbers.
use Rattle.std.proofs.Common.{ℕ, suc, ◌+◌, ◌≡◌, ◌∙◌, ◌⊎◌, Bool, true, false, not, ◌&&◌, ◌||◌, List, [], ◌∷◌, ◌++◌, Some, cond, map, nat_eq, eqb-true, slice_get, inl, inr, refl, sym, ap, subst, arith}
use Rattle.std.specs.List.{filter}
use Rattle.std.proofs.lemmas.Bool.{and_parts}
use Rattle.shim_units.specs.declared.found.Use.{Use}
use Rattle.shim_units.specs.Captures.{some, declares_variable, writes, names, is_written}
use Rattle.shim_units.specs.Lifting.{is_among}
use Rattle.shim_units.specs.Moving.{slot_index_of}
use Rattle.shim_laws_sources.proofs.Placing.{index_of, some_first, some_second}
use Rattle.shim_base.proofs.Facts.{both_hold, either_holds, some_same}
use Rattle.shim_laws_stops.specs.InScope.{distinct, are_apart}
use Rattle.shim_laws_stops.proofs.Among.{Among, none_among, first_of, among_behind, among_cases, among_either, was_among, its_place}

-- uses

abbrev pub Names : List Use → ℕ → Type 0
Names us y = names us y ≡ true

abbrev pub Declares : List Use → ℕ → Type 0
Declares us y = declares_variable us y ≡ true

some_either : (p : Use → Bool) (us vs : List Use) → some p (us ++ vs) ≡ true → (some p us ≡ true) ⊎ (some p vs ≡ true)
some_either p [] vs h = inr h
some_either p (u ∷ us) vs h = elim (either_holds (p u) (some p (us ++ vs)) h) [
  | inl e ↦ inl (ap (λ (b : Bool). b || some p us) e)
  | inr e ↦ elim (some_either p us vs e) [ inl f ↦ inl (behind (p u) (some p us) f) | inr f ↦ inr f ]
]
  where
    behind : (a b : Bool) → b ≡ true → (a || b) ≡ true
    behind true b h = refl
    behind false b h = h

pub names_first : (us vs : List Use) (y : ℕ) → Names us y → Names (us ++ vs) y
names_first us vs y h = some_first _ us vs h

pub names_second : (us vs : List Use) (y : ℕ) → Names vs y → Names (us ++ vs) y
names_second us vs y h = some_second _ us vs h

pub names_either : (us vs : List Use) (y : ℕ) → Names (us ++ vs) y → Names us y ⊎ Names vs y
names_either us vs y h = some_either _ us vs h

pub declares_first : (us vs : List Use) (y : ℕ) → Declares us y → Declares (us ++ vs) y
declares_first us vs y h = some_first _ us vs h

pub declares_second : (us vs : List Use) (y : ℕ) → Declares vs y → Declares (us ++ vs) y
declares_second us vs y h = some_second _ us vs h

pub declares_either : (us vs : List Use) (y : ℕ) → Declares (us ++ vs) y → Declares us y ⊎ Declares vs y
declares_either us vs y h = some_either _ us vs h

-- what is written is named
weaker_by : (a b c d : Bool) → (c ≡ true → d ≡ true) → ((a && b) || c) ≡ true → (a || d) ≡ true
weaker_by true b c d f h = refl
weaker_by false b c d f h = f h

pub writes_names : (us : List Use) (y : ℕ) → writes us y ≡ true → Names us y
writes_names [] y h = absurd (cc h)
writes_names (u ∷ us) y h = weaker_by (nat_eq u.slot y) (is_written u.how) (writes us y) (names us y) (writes_names us y) h

-- lists without a number twice

not_true : (b : Bool) → not b ≡ true → b ≡ true → ⊥
not_true true h k = cc h
not_true false h k = cc k

not_of : (b : Bool) → (b ≡ true → ⊥) → not b ≡ true
not_of true f = absurd (f refl)
not_of false f = refl

pub once_first : (x : ℕ) (xs : List ℕ) → distinct (x ∷ xs) ≡ true → Among xs x → ⊥
once_first x xs h a = not_true (is_among xs x) (and_parts (not (is_among xs x)) (distinct xs) h).0 a

pub once_rest : (x : ℕ) (xs : List ℕ) → distinct (x ∷ xs) ≡ true → distinct xs ≡ true
once_rest x xs h = (and_parts (not (is_among xs x)) (distinct xs) h).1

pub once_more : (x : ℕ) (xs : List ℕ) → (Among xs x → ⊥) → distinct xs ≡ true → distinct (x ∷ xs) ≡ true
once_more x xs f h = both_hold (not (is_among xs x)) (distinct xs) (not_of (is_among xs x) f) h

pub once_both : (xs ys : List ℕ) → distinct xs ≡ true → distinct ys ≡ true → ((x : ℕ) → Among xs x → Among ys x → ⊥) → distinct (xs ++ ys) ≡ true
once_both [] ys h k f = k
once_both (x ∷ xs) ys h k f =
    once_more x (xs ++ ys) (λ a. elim (among_either xs ys x a) [ inl b ↦ once_first x xs h b | inr b ↦ f x (first_of x xs) b ])
    (once_both xs ys (once_rest x xs h) k (λ y a b. f y (among_behind x xs y a) b))

once_by : (b : Bool) (x : ℕ) (xs ys : List ℕ) → distinct ys ≡ true → (Among ys x → ⊥) → distinct (cond b (x ∷ ys) ys) ≡ true
once_by true x xs ys h f = once_more x ys f h
once_by false x xs ys h f = h

pub once_passed : (p : ℕ → Bool) (xs : List ℕ) → distinct xs ≡ true → distinct (filter p xs) ≡ true
once_passed p [] h = refl
once_passed p (x ∷ xs) h = once_by (p x) x xs (filter p xs) (once_passed p xs (once_rest x xs h)) (λ a. once_first x xs h (was_among p xs x a))

pub apart_of : (xs ys : List ℕ) → ((y : ℕ) → Among ys y → Among xs y → ⊥) → are_apart xs ys ≡ true
apart_of xs [] f = refl
apart_of xs (y ∷ ys) f = both_hold (not (is_among xs y)) (are_apart xs ys) (not_of (is_among xs y) (f y (first_of y ys))) (apart_of xs ys (λ z a b. f z (among_behind y ys z a) b))

pub apart_not : (xs ys : List ℕ) (y : ℕ) → are_apart xs ys ≡ true → Among ys y → Among xs y → ⊥
apart_not xs [] y h a b = none_among y a
apart_not xs (z ∷ ys) y h a b =
    let w = and_parts (not (is_among xs z)) (are_apart xs ys) h in
    elim (among_cases z ys y a) [ inl e ↦ not_true (is_among xs z) w.0 (subst (Among xs) (sym e) b) | inr c ↦ apart_not xs ys y w.1 c b ]

-- what stands at the place of a number

at_by : {T : Type 0} (b c : Bool) (g : ℕ → T) (x y : ℕ) (rest : List ℕ) (n : ℕ) → (b ≡ true → x ≡ y) → (c ≡ true → slice_get (map g rest) n ≡ Some (g y)) → (b || c) ≡ true
    → slice_get (g x ∷ map g rest) (cond (not b) (1 + n) 0) ≡ Some (g y)
at_by true c g x y rest n same f h = ap (λ z. Some (g z)) (same refl)
at_by false c g x y rest n same f h = let e : 1 + n ≡ suc n = omega arith in ap (slice_get (g x ∷ map g rest)) e ∙ f h

at_index : {T : Type 0} (g : ℕ → T) (all : List ℕ) (y : ℕ) → Among all y → slice_get (map g all) (index_of all y) ≡ Some (g y)
at_index g [] y h = none_among y h
at_index g (x ∷ all) y h = at_by (nat_eq x y) (is_among all y) g x y all (index_of all y) (eqb-true x y) (at_index g all y) h

pub at_place_of : {T : Type 0} (g : ℕ → T) (all : List ℕ) (y : ℕ) → Among all y → slice_get (map g all) (slot_index_of all y) ≡ Some (g y)
at_place_of g all y h = ap (slice_get (map g all)) (its_place all y h) ∙ at_index g all y h

-- so two numbers have two places
pub same_place : (all : List ℕ) (x y : ℕ) → Among all x → Among all y → slot_index_of all x ≡ slot_index_of all y → x ≡ y
same_place all x y h k e =
    some_same x y (sym (at_place_of (λ (z : ℕ). z) all x h) ∙ (ap (slice_get (map (λ (z : ℕ). z) all)) e ∙ at_place_of (λ (z : ℕ). z) all y k))
