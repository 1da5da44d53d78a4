-- Numbers that ascend: where one of them stands, and which are among others.
use Rattle.std.proofs.Common.{ℕ, suc, zero, ◌≡◌, ◌∙◌, ◌+◌, ◌-◌, ◌<◌, ◌≤◌, List, [], ◌∷◌, ◌++◌, Some, None, Bool, true, false, ◌||◌, cond, length, get_or, drop, filter, nat_eq, nat_lt, IsPermutation, Result, Ok, Err, IfOk, MatchResult, nat_cmp, refl, sym, ap, arith, ne_eqb, eq-eqb, ltb-true, ltb-false, length-drop, get_or-drop, drop-cons, append_assoc, append-nil, drop-drop, take, take_all, drop_of_length-le, add-one, eq-or-lt_of_le, le_of_eq, inl, inr, subst}
use Rattle.std.specs.List.{position_or_len, list_any}
use Rattle.std.specs.List.Sorted.{IsStrictlyIncreasing, IsNonDecreasing, IsBinarySearchResult}
use Rattle.std.proofs.lemmas.List.Sums.{prefix_len-le-length, position_or_len_is}
use Rattle.std.proofs.lemmas.List.Sorted.{list_any-IsPermutation, searched}
use Rattle.shim_units.specs.Moving.{position_else, slot_index_of}
use Rattle.shim_units.specs.Lifting.{is_among, given_exceptions}

-- a number that isn't above the one before it
pub falls : (xs : List ℕ) (at : ℕ) → 1 ≤ at → at < length xs → get_or xs at 0 ≤ get_or xs (at - 1) 0 → IsStrictlyIncreasing xs → ⊥
falls xs at one within le up =
    let e : at - 1 + 1 ≡ at = omega arith in
    let lt : get_or xs (at - 1) 0 < get_or xs (at - 1 + 1) 0 = up (at - 1) (omega arith) in
    let same : get_or xs (at - 1 + 1) 0 ≡ get_or xs at 0 = ap (λ k. get_or xs k 0) e in
    omega arith

-- each is below all that stand after it
below_later : (xs : List ℕ) → IsStrictlyIncreasing xs → (i d : ℕ) → i + suc d < length xs → get_or xs i 0 < get_or xs (i + suc d) 0
below_later xs up i zero h = up i (omega arith)
below_later xs up i (suc d) h =
    let first : get_or xs i 0 < get_or xs (i + suc d) 0 = below_later xs up i d (omega arith) in
    let last : get_or xs (i + suc d) 0 < get_or xs (i + suc d + 1) 0 = up (i + suc d) (omega arith) in
    let e : i + suc d + 1 ≡ i + suc (suc d) = omega arith in
    let same : get_or xs (i + suc d + 1) 0 ≡ get_or xs (i + suc (suc d)) 0 = ap (λ k. get_or xs k 0) e in
    omega arith

less : (xs : List ℕ) → IsStrictlyIncreasing xs → (i j : ℕ) → i < j → j < length xs → get_or xs i 0 < get_or xs j 0
less xs up i j lt within =
    let e : i + suc (j - i - 1) ≡ j = omega arith in
    let far : get_or xs i 0 < get_or xs (i + suc (j - i - 1)) 0 = below_later xs up i (j - i - 1) (omega arith) in
    let same : get_or xs (i + suc (j - i - 1)) 0 ≡ get_or xs j 0 = ap (λ k. get_or xs k 0) e in
    omega arith

-- what a search by halves asks
pub rise : (xs : List ℕ) → IsStrictlyIncreasing xs → (i j : ℕ) → i ≤ j → j < length xs → get_or xs i 0 ≤ get_or xs j 0
rise xs up i j le within = elim (eq-or-lt_of_le le) [
  | inl e ↦ le_of_eq (ap (λ k. get_or xs k 0) e)
  | inr lt ↦ let h : get_or xs i 0 < get_or xs j 0 = less xs up i j lt within in omega arith
]

pub ascend_behind : (n : ℕ) (xs : List ℕ) → IsStrictlyIncreasing xs → IsStrictlyIncreasing (drop n xs)
ascend_behind n xs up k h =
    let lt : get_or xs (n + k) 0 < get_or xs (n + k + 1) 0 = up (n + k) (omega (arith, length-drop n xs)) in
    let e : n + k + 1 ≡ n + (k + 1) = omega arith in
    let same : get_or xs (n + k + 1) 0 ≡ get_or xs (n + (k + 1)) 0 = ap (λ k. get_or xs k 0) e in
    omega (arith, get_or-drop n xs k 0, get_or-drop n xs (k + 1) 0)

-- the place of one of them, and of one that isn't there

place_by : (b : Bool) (at n : ℕ) → nat_lt at n ≡ b → at ≤ n → position_else n (cond b (Some at) None) ≡ at
place_by true at n lt le = refl
place_by false at n lt le = omega (arith, ltb-false at n lt)

index_is_place : (xs : List ℕ) (x : ℕ) → slot_index_of xs x ≡ position_or_len (λ y. nat_eq y x) xs
unfolding slot_index_of
index_is_place xs x =
    place_by (nat_lt (position_or_len (λ y. nat_eq y x) xs) (length xs)) (position_or_len (λ y. nat_eq y x) xs) (length xs) refl
    (prefix_len-le-length _ xs)

pub index_found : (xs : List ℕ) (x at : ℕ) → IsStrictlyIncreasing xs → at < length xs → get_or xs at 0 ≡ x → at ≡ slot_index_of xs x
index_found xs x at up within is =
    sym (index_is_place xs x ∙ position_or_len_is (λ y. nat_eq y x) xs at 0 (omega arith)
    (λ k h. ne_eqb (get_or xs k 0) x (λ e. let lt : get_or xs k 0 < get_or xs at 0 = less xs up k at h within in omega arith))
    (λ _. eq-eqb (get_or xs at 0) x is))

on_a_side : (b : Bool) (k at v x : ℕ) → nat_lt k at ≡ b → (k < at → v < x) → (at ≤ k → x < v) → v ≡ x → ⊥
on_a_side true k at v x lt below above e = let h : v < x = below (ltb-true k at lt) in omega arith
on_a_side false k at v x lt below above e = let h : x < v = above (ltb-false k at lt) in omega arith

pub index_missed : (xs : List ℕ) (x at : ℕ) → ((k : ℕ) → k < at → get_or xs k 0 < x) → ((k : ℕ) → at ≤ k → k < length xs → x < get_or xs k 0) → length xs ≡ slot_index_of xs x
index_missed xs x at below above =
    sym (index_is_place xs x ∙ position_or_len_is (λ y. nat_eq y x) xs (length xs) 0 (omega arith)
    (λ k h. ne_eqb (get_or xs k 0) x (on_a_side (nat_lt k at) k at (get_or xs k 0) x refl (below k) (λ le. above k le h)))
    (λ h. absurd (omega arith)))

-- those that are among others

not_among : (x : ℕ) (ys : List ℕ) → ((k : ℕ) → k < length ys → x < get_or ys k 0) → is_among ys x ≡ false
not_among x [] above = refl
not_among x (y ∷ ys) above =
    let lt : x < y = above 0 (omega arith) in
    let ne : y ≡ x → ⊥ = omega arith in
    ap (λ b. b || is_among ys x) (ne_eqb y x ne) ∙ not_among x ys (λ k h. above (suc k) (omega arith))

-- the least of the others is none of the numbers that are greater
past : (r : ℕ) (more xs : List ℕ) → ((k : ℕ) → k < length xs → r < get_or xs k 0) → given_exceptions (r ∷ more) xs ≡ given_exceptions more xs
past r more [] above = refl
past r more (x ∷ xs) above =
    let lt : r < x = above 0 (omega arith) in
    let ne : r ≡ x → ⊥ = omega arith in
    let kept = given_exceptions (r ∷ more) xs in
    ap (λ b. cond (b || is_among more x) (x ∷ kept) kept) (ne_eqb r x ne)
    ∙ ap (λ zs. cond (is_among more x) (x ∷ zs) zs) (past r more xs (λ k h. above (suc k) (omega arith)))

-- numbers below all others are left out
skipped : (r : ℕ) (others xs : List ℕ) (at : ℕ) → ((k : ℕ) → k < length others → r ≤ get_or others k 0) → ((k : ℕ) → k < at → get_or xs k 0 < r)
    → given_exceptions others xs ≡ given_exceptions others (drop at xs)
skipped r others xs zero least below = refl
skipped r others [] (suc at) least below = refl
skipped r others (x ∷ xs) (suc at) least below =
    let lt : x < r = below 0 (omega arith) in
    let kept = given_exceptions others xs in
    ap (λ b. cond b (x ∷ kept) kept) (not_among x others (λ k h. let le : r ≤ get_or others k 0 = least k h in omega arith))
    ∙ skipped r others xs at least (λ k h. below (suc k) (omega arith))

missed : (r : ℕ) (more xs : List ℕ) (at : ℕ) → ((k : ℕ) → k < length (r ∷ more) → r ≤ get_or (r ∷ more) k 0) → ((k : ℕ) → k < at → get_or xs k 0 < r)
    → ((k : ℕ) → at ≤ k → k < length xs → r < get_or xs k 0) → given_exceptions (r ∷ more) xs ≡ given_exceptions more (drop at xs)
missed r more xs at least below above =
    skipped r (r ∷ more) xs at least below
    ∙ past r more (drop at xs) (λ k h.
    let lt : r < get_or xs (at + k) 0 = above (at + k) (omega arith) (omega (arith, length-drop at xs)) in
    omega (arith, get_or-drop at xs k 0))

found : (r : ℕ) (more xs : List ℕ) (at : ℕ) → ((k : ℕ) → k < length (r ∷ more) → r ≤ get_or (r ∷ more) k 0) → IsStrictlyIncreasing xs → at < length xs
    → get_or xs at 0 ≡ r → given_exceptions (r ∷ more) xs ≡ r ∷ given_exceptions more (drop (at + 1) xs)
found r more xs at least up within is =
    skipped r (r ∷ more) xs at least (λ k h. let lt : get_or xs k 0 < get_or xs at 0 = less xs up k at h within in omega arith)
    ∙ ap (given_exceptions (r ∷ more)) (drop-cons xs at 0 within)
    ∙ ap (λ x. given_exceptions (r ∷ more) (x ∷ drop (suc at) xs)) is
    ∙ ap (λ b. cond (b || is_among more r) (r ∷ kept) kept) (eq-eqb r r refl)
    ∙ ap (λ zs. r ∷ zs) (past r more (drop (suc at) xs) above)
    ∙ ap (λ n. r ∷ given_exceptions more (drop n xs)) (sym (add-one at))
  where
    kept : List ℕ
    kept = given_exceptions (r ∷ more) (drop (suc at) xs)

    above : (k : ℕ) → k < length (drop (suc at) xs) → r < get_or (drop (suc at) xs) k 0
    above k h =
        let lt : get_or xs at 0 < get_or xs (suc at + k) 0 = less xs up at (suc at + k) (omega arith) (omega (arith, length-drop (suc at) xs)) in
        omega (arith, get_or-drop (suc at) xs k 0)

-- one more of the others, which rise

next_one : (others : List ℕ) (i r : ℕ) → i < length others → get_or others i 0 ≡ r → drop i others ≡ r ∷ drop (i + 1) others
next_one others i r h is =
    drop-cons others i 0 h ∙ ap (λ x. x ∷ drop (suc i) others) is ∙ ap (λ n. r ∷ drop n others) (sym (add-one i))

least_next : (others : List ℕ) (i r : ℕ) → IsNonDecreasing others → i < length others → get_or others i 0 ≡ r
    → (k : ℕ) → k < length (r ∷ drop (i + 1) others) → r ≤ get_or (r ∷ drop (i + 1) others) k 0
least_next others i r up h is =
    let P : List ℕ → Type 0 = λ rs. (k : ℕ) → k < length rs → r ≤ get_or rs k 0 in
    subst P (next_one others i r h is) (λ k lt.
    let le : get_or others i 0 ≤ get_or others (i + k) 0 = up i (i + k) 0 (omega arith) (omega (arith, length-drop i others)) in
    omega (arith, get_or-drop i others k 0))

-- what a search by halves finds from a place on, in the form that `&numbers[start..]` gives
pub searched_behind : (numbers : List ℕ) (start x : ℕ) (r : Result ℕ ℕ) → IsStrictlyIncreasing numbers
    → IsBinarySearchResult (λ y. nat_cmp y x) (take (length numbers - start) (drop start numbers)) r
    → MatchResult r (λ at. (at < length (drop start numbers)) × (get_or (drop start numbers) at 0 ≡ x))
    (λ at. (at ≤ length (drop start numbers)) × ((k : ℕ) → k < at → get_or (drop start numbers) k 0 < x) × ((k : ℕ) → at ≤ k → k < length (drop start numbers) → x < get_or (drop start numbers) k 0))
searched_behind numbers start x r up h =
    let whole : take (length numbers - start) (drop start numbers) ≡ drop start numbers = take_all _ _ (omega (arith, length-drop start numbers)) in
    searched (drop start numbers) x r (subst (λ xs. IsBinarySearchResult (λ y. nat_cmp y x) xs r) whole h) (rise (drop start numbers) (ascend_behind start numbers up))

-- the numbers from `start` on are left for the others from `i` on
pub record IsRest (others numbers made : List ℕ) (start i : ℕ) : Type 0 where
  pub within : start ≤ length numbers
  pub found : made ++ given_exceptions (drop i others) (drop start numbers) ≡ given_exceptions others numbers

module _ (others numbers made : List ℕ) (start i r at : ℕ) (rising : IsNonDecreasing others) (up : IsStrictlyIncreasing numbers) (h : i < length others) (is : get_or others i 0 ≡ r) (old : IsRest others numbers made start i) where
  -- it is the number at that place of these, or would stand there
  pub found_next : at < length (drop start numbers) → get_or (drop start numbers) at 0 ≡ r → IsRest others numbers (made ++ r ∷ []) (start + (at + 1)) (i + 1)
  found_next inside same = record {
    within = omega (arith, length-drop start numbers, old.within);
    found =
        append_assoc made (r ∷ []) (given_exceptions (drop (i + 1) others) (drop (start + (at + 1)) numbers))
        ∙ ap (λ xs. made ++ r ∷ given_exceptions (drop (i + 1) others) xs) (sym (drop-drop (at + 1) start numbers))
        ∙ ap (λ zs. made ++ zs) (sym (found r (drop (i + 1) others) (drop start numbers) at (least_next others i r rising h is) (ascend_behind start numbers up) inside same))
        ∙ ap (λ rs. made ++ given_exceptions rs (drop start numbers)) (sym (next_one others i r h is))
        ∙ old.found;
  }

  pub missed_next : at ≤ length (drop start numbers) → ((k : ℕ) → k < at → get_or (drop start numbers) k 0 < r)
      → ((k : ℕ) → at ≤ k → k < length (drop start numbers) → r < get_or (drop start numbers) k 0)
      → IsRest others numbers made (start + at) (i + 1)
  missed_next inside below above = record {
    within = omega (arith, length-drop start numbers, old.within);
    found =
        ap (λ xs. made ++ given_exceptions (drop (i + 1) others) xs) (sym (drop-drop at start numbers))
        ∙ ap (λ zs. made ++ zs) (sym (missed r (drop (i + 1) others) (drop start numbers) at (least_next others i r rising h is) below above))
        ∙ ap (λ rs. made ++ given_exceptions rs (drop start numbers)) (sym (next_one others i r h is))
        ∙ old.found;
  }

-- the order of the others is no matter

among_any : (ys : List ℕ) (x : ℕ) → is_among ys x ≡ list_any (λ y. nat_eq y x) ys
among_any [] x = refl
among_any (y ∷ ys) x = ap (λ b. nat_eq y x || b) (among_any ys x)

-- nor how often they are raised
pub given_reordered : (raises some sorted exceptions : List ℕ) → ((x : ℕ) → is_among some x ≡ is_among raises x) → IsPermutation some sorted
    → given_exceptions sorted exceptions ≡ given_exceptions raises exceptions
given_reordered raises some sorted exceptions same moved =
    let each : (x : ℕ) → is_among sorted x ≡ is_among raises x =
    λ x. among_any sorted x ∙ sym (list_any-IsPermutation (λ y. nat_eq y x) some sorted moved) ∙ sym (among_any some x) ∙ same x in
    ap (λ p. filter p exceptions) (λ i x. each x i)

none_among : (xs : List ℕ) → given_exceptions [] xs ≡ []
none_among [] = refl
none_among (x ∷ xs) = none_among xs

pub all_done : (others numbers made : List ℕ) (start i : ℕ) → IsRest others numbers made start i → length others ≤ i → made ≡ given_exceptions others numbers
all_done others numbers made start i old le =
    sym (append-nil made)
    ∙ ap (λ zs. made ++ zs) (sym (none_among (drop start numbers)))
    ∙ ap (λ rs. made ++ given_exceptions rs (drop start numbers)) (sym (drop_of_length-le others le))
    ∙ old.found

pub same_rest : (others numbers : List ℕ) (i : ℕ) {made one : List ℕ} {start at : ℕ} → made ≡ one → start ≡ at → IsRest others numbers one at i → IsRest others numbers made start i
same_rest others numbers i e h old = rw e (rw h old)

pub given_alike : {E : Type 0} (r : Result (List ℕ) E) (some numbers raises exceptions : List ℕ) → given_exceptions some numbers ≡ given_exceptions raises exceptions
    → IfOk r (λ made. made ≡ given_exceptions some numbers) → IfOk r (λ made. made ≡ given_exceptions raises exceptions)
given_alike (Ok made) some numbers raises exceptions e h = h ∙ e
given_alike (Err error) some numbers raises exceptions e h = tt
