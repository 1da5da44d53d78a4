-- Where a unit's own variables stand among its slots: after those that it is given.
use Rattle.std.proofs.Common.{ℕ, zero, suc, ◌+◌, ◌<◌, ◌≤◌, ◌≡◌, ◌∙◌, Bool, true, false, not, ◌&&◌, ◌||◌, List, [], ◌∷◌, ◌++◌, Option, Some, None, cond, length, nat_eq, inl, inr, refl, sym, ap, arith}
use Rattle.std.specs.List.{position_or_len}
use Rattle.std.proofs.lemmas.Bool.{lt-ltb, le-leb, true≢false}
use Rattle.std.proofs.lemmas.Bool.Decides.{eqb_tells}
use Rattle.shim_syntax.specs.declared.tree.Sort.{Sort}
use Rattle.shim_units.specs.declared.found.Use.{Use}
use Rattle.shim_units.specs.declared.unit.Unit.{Unit as UnitOf}
use Rattle.shim_units.specs.Lifting.{taken, is_among}
use Rattle.shim_units.specs.Moving.{position_else, slot_index_of}
use Rattle.shim_units.specs.Captures.{Captures, captures, taken_of, is_taken, some, declares_variable}
use Rattle.shim_units.specs.declared.found.How.TheVariants.{Declared}
use Rattle.shim_units.specs.Units.{upto}
use Rattle.shim_units.specs.Uses.{used}
use Rattle.shim_laws_binding.proofs.Lists.{Each}
use Rattle.shim_process.specs.OwnSlots.{is_own_slot}
use Rattle.shim_laws_sources.proofs.Lists.{each_weaker}
use Rattle.shim_base.proofs.Facts.{both_hold}

-- what is among the slots

pub among_more : (b c : Bool) → c ≡ true → (b || c) ≡ true
among_more true c h = refl
among_more false c h = h

same_number : (y : ℕ) (c : Bool) → (nat_eq y y || c) ≡ true
same_number y c = elim (eqb_tells y y) [ inl e ↦ ap (λ (b : Bool). b || c) e.0 | inr e ↦ absurd (e.1 refl) ]

-- each number of a list is among them
pub all_among : (ys : List ℕ) → Each (λ y. is_among ys y ≡ true) ys
all_among [] = tt
all_among (y ∷ ys) =
    (same_number y (is_among ys y), each_weaker (λ z. is_among ys z ≡ true) (λ z. is_among (y ∷ ys) z ≡ true) (λ z h. among_more (nat_eq y z) (is_among ys z) h) ys (all_among ys))

neither : (b c : Bool) → b ≡ false → c ≡ false → (b || c) ≡ false
neither b c p q = ap (λ (a : Bool). a || c) p ∙ q

differ : (m n : ℕ) → m < n → nat_eq m n ≡ false
differ m n less = elim (eqb_tells m n) [ inl e ↦ absurd (omega (arith, e.1, less)) | inr e ↦ e.0 ]

not_among_more : (m : ℕ) (xs : List ℕ) (y : ℕ) → is_among xs y ≡ false → m < y → is_among (xs ++ m ∷ []) y ≡ false
not_among_more m [] y h less = neither (nat_eq m y) false (differ m y less) refl
not_among_more m (x ∷ xs) y h less = not_among_by (nat_eq x y) (is_among xs y) (is_among (xs ++ m ∷ []) y) (λ k. not_among_more m xs y k less) h where
  not_among_by : (b c d : Bool) → (c ≡ false → d ≡ false) → (b || c) ≡ false → (b || d) ≡ false
  not_among_by true c d f k = absurd (cc k)
  not_among_by false c d f k = f k

-- a number from n on is none of those below it
pub not_upto : (n y : ℕ) → n ≤ y → is_among (upto n) y ≡ false
not_upto zero y h = refl
not_upto (suc n) y h = not_among_more n (upto n) y (not_upto n y (omega (arith, h))) (omega (arith, h))

-- what a branch declares isn't taken from around it

not_taken_of : (o : Option Sort) (declared written named : Bool) → declared ≡ true → is_taken (taken_of o declared written named) ≡ false
not_taken_of None declared written named h = refl
not_taken_of (Some sort) true written named h = refl
not_taken_of (Some sort) false written named h = absurd (cc h)

kept_by : (b : Bool) (x : ℕ) (xs : List ℕ) (y : ℕ) → (b ≡ true → nat_eq x y ≡ false) → is_among xs y ≡ false → is_among (cond b (x ∷ xs) xs) y ≡ false
kept_by true x xs y f h = neither (nat_eq x y) (is_among xs y) (f refl) h
kept_by false x xs y f h = h

other_than : (t : Captures) (x y : ℕ) → is_taken (t y) ≡ false → is_taken (t x) ≡ true → nat_eq x y ≡ false
other_than t x y left got = elim (eqb_tells x y) [ inl e ↦ absurd (true≢false (sym got ∙ ap (λ z. is_taken (t z)) e.1 ∙ left)) | inr e ↦ e.0 ]

not_among_taken : (t : Captures) (slots : List ℕ) (y : ℕ) → is_taken (t y) ≡ false → is_among (taken t slots) y ≡ false
not_among_taken t [] y h = refl
not_among_taken t (x ∷ slots) y h = kept_by (is_taken (t x)) x (taken t slots) y (other_than t x y h) (not_among_taken t slots y h)

pub declared_not_taken : (sorts : List Sort) (us : List Use) (slots : List ℕ) (y : ℕ) → declares_variable us y ≡ true → is_among (taken (captures sorts us) slots) y ≡ false
declared_not_taken sorts us slots y h = not_among_taken (captures sorts us) slots y (not_taken_of _ (declares_variable us y) _ _ h)

-- the uses of a part are among those of the whole

some_by : (b c d : Bool) → (c ≡ true → d ≡ true) → (b || c) ≡ true → (b || d) ≡ true
some_by true c d f h = refl
some_by false c d f h = f h

pub some_first : (p : Use → Bool) (us vs : List Use) → some p us ≡ true → some p (us ++ vs) ≡ true
some_first p [] vs h = absurd (cc h)
some_first p (u ∷ us) vs h = some_by (p u) (some p us) (some p (us ++ vs)) (some_first p us vs) h

pub some_second : (p : Use → Bool) (us vs : List Use) → some p vs ≡ true → some p (us ++ vs) ≡ true
some_second p [] vs h = h
some_second p (u ∷ us) vs h = among_more (p u) (some p (us ++ vs)) (some_second p us vs h)

-- the place of a number that is among the second list, and not among the first

-- the first place of y in a list
abbrev pub index_of : List ℕ → ℕ → ℕ
index_of all y = position_or_len (λ z. nat_eq z y) all

found_by : (b c : Bool) (n m : ℕ) → (c ≡ true → n < m) → (b || c) ≡ true → cond (not b) (1 + n) 0 < suc m
found_by true c n m f h = omega arith
found_by false c n m f h = let k = f h in omega (arith, k)

pub found : (ds : List ℕ) (y : ℕ) → is_among ds y ≡ true → index_of ds y < length ds
found [] y h = absurd (cc h)
found (d ∷ ds) y h = found_by (nat_eq d y) (is_among ds y) (index_of ds y) (length ds) (found ds y) h

-- a place from l on, below m
record IsBetween (l m n : ℕ) : Type 0 where
  from : l ≤ n
  under : n < m

behind_by : (b c : Bool) (l m n : ℕ) → (c ≡ false → IsBetween l m n) → (b || c) ≡ false → IsBetween (suc l) (suc m) (cond (not b) (1 + n) 0)
behind_by true c l m n f h = absurd (cc h)
behind_by false c l m n f h = let k = f h in record { from = omega (arith, k.from); under = omega (arith, k.under) }

index_behind : (xs ds : List ℕ) (y : ℕ) → is_among xs y ≡ false → is_among ds y ≡ true → IsBetween (length xs) (length (xs ++ ds)) (index_of (xs ++ ds) y)
index_behind [] ds y h k = record { from = omega arith; under = found ds y k }
index_behind (x ∷ xs) ds y h k = behind_by (nat_eq x y) (is_among xs y) (length xs) (length (xs ++ ds)) (index_of (xs ++ ds) y) (λ l. index_behind xs ds y l k) h

pub place_is : (all : List ℕ) (y : ℕ) → index_of all y < length all → slot_index_of all y ≡ index_of all y
unfolding slot_index_of
place_is all y less = ap (λ (b : Bool). position_else (length all) (cond b (Some (index_of all y)) None)) (lt-ltb (index_of all y) (length all) less)

between : (u : UnitOf) (l m n : ℕ) → length u.params ≡ l → length u.slots ≡ m → IsBetween l m n → is_own_slot u n ≡ true
between u l m n p s b = both_hold _ _ (le-leb (length u.params) n (omega (arith, p, b.from))) (lt-ltb n (length u.slots) (omega (arith, s, b.under)))

-- so it is a slot of the unit's own
pub own_place : (u : UnitOf) (xs ds : List ℕ) (y : ℕ) → length u.params ≡ length xs → length u.slots ≡ length (xs ++ ds) → is_among xs y ≡ false → is_among ds y ≡ true
    → is_own_slot u (slot_index_of (xs ++ ds) y) ≡ true
own_place u xs ds y p s h k =
    let b = index_behind xs ds y h k in
    ap (is_own_slot u) (place_is (xs ++ ds) y b.under) ∙ between u (length xs) (length (xs ++ ds)) (index_of (xs ++ ds) y) p s b

-- a declaration is the first use
pub declares_it : (y : ℕ) (us : List Use) → declares_variable (used Declared y ∷ us) y ≡ true
declares_it y us = elim (eqb_tells y y) [ inl e ↦ ap (λ (b : Bool). (b && true) || declares_variable us y) e.0 | inr e ↦ absurd (e.1 refl) ]
