-- The states of children, split off a list so that they are lent to their parent.
use Rattle.std.proofs.Common.{◌≡◌, ◌<◌, ◌≤◌, ◌+◌, ℕ, zero, suc, Bool, Some, List, [], ◌∷◌, ◌++◌, length, take, drop, get_or, slice_set, refl, sym, ap, subst, ◌∙◌, arith}
use Rattle.std.specs.Prelude.{slice_get}
use Rattle.std.proofs.lemmas.Option.{get_or_from_slice_get, slice_get-get_or}
use Rattle.shim_base.proofs.Facts.{none_some}
use Rattle.shim_local.specs.Process.{Ops}
use Rattle.shim_laws_table.specs.Changes.{segment}

pub front_and_back : {A : Type 0} (xs : List A) (k : ℕ) → take k xs ++ drop k xs ≡ xs
front_and_back [] zero = refl
front_and_back [] (suc k) = refl
front_and_back (x ∷ xs) zero = refl
front_and_back (x ∷ xs) (suc k) = ap (λ z. x ∷ z) (front_and_back xs k)

set_front : {A : Type 0} (xs : List A) (i k : ℕ) (x : A) → i < k → slice_set (take k xs) i x ++ drop k xs ≡ slice_set xs i x
set_front xs i zero x h = absurd (omega (arith, h))
set_front [] i (suc k) x h = refl
set_front (y ∷ xs) zero (suc k) x h = ap (λ z. x ∷ z) (front_and_back xs k)
set_front (y ∷ xs) (suc i) (suc k) x h = ap (λ z. y ∷ z) (set_front xs i k x (omega (arith, h)))

get_front : {A : Type 0} (xs : List A) (i k : ℕ) (x : A) → i < k → slice_get xs i ≡ Some x → slice_get (take k xs) i ≡ Some x
get_front xs i zero x h e = absurd (omega (arith, h))
get_front [] i (suc k) x h e = none_some x e
get_front (y ∷ xs) zero (suc k) x h e = e
get_front (y ∷ xs) (suc i) (suc k) x h e = get_front xs i k x (omega (arith, h)) e

pub joined_behind : {S : Type 0} (o : Ops S) (xs front back lent : List S) (parent first count : ℕ) (goes_on : Bool) (l x y : S) → front ≡ take first xs → back ≡ drop first xs → lent ≡ take count back → parent < first → slice_get xs parent ≡ Some l → y ≡ get_or front parent y
    → x ≡ o.join y lent goes_on → slice_set front parent x ++ back ≡ slice_set xs parent (o.join l (segment first count xs) goes_on)
joined_behind o xs front back lent parent first count goes_on l x y is_front is_back is_lent order e is_y is_x =
    let its : y ≡ l = is_y ∙ (ap (λ z. get_or z parent y) is_front ∙ get_or_from_slice_get (take first xs) parent l y (get_front xs parent first l order e)) in
    (λ i. slice_set (is_front i) parent x ++ is_back i)
    ∙ (set_front xs parent first x order ∙ ap (slice_set xs parent) (is_x ∙ ((λ i. o.join (its i) (is_lent i) goes_on) ∙ ap (λ z. o.join l (take count z) goes_on) is_back)))

-- ---- where they are before it

set_back : {A : Type 0} (xs : List A) (k : ℕ) (x : A) → take k xs ++ slice_set (drop k xs) 0 x ≡ slice_set xs k x
set_back [] zero x = refl
set_back [] (suc k) x = refl
set_back (y ∷ xs) zero x = refl
set_back (y ∷ xs) (suc k) x = ap (λ z. y ∷ z) (set_back xs k x)

get_back : {A : Type 0} (xs : List A) (k : ℕ) (x : A) → slice_get xs k ≡ Some x → slice_get (drop k xs) 0 ≡ Some x
get_back [] k x e = none_some x e
get_back (y ∷ xs) zero x e = e
get_back (y ∷ xs) (suc k) x e = get_back xs k x e

take_first : {A : Type 0} (xs : List A) (count k : ℕ) → count ≤ k → take count (take k xs) ≡ take count xs
take_first xs zero k h = refl
take_first xs (suc count) zero h = absurd (omega (arith, h))
take_first [] (suc count) (suc k) h = refl
take_first (x ∷ xs) (suc count) (suc k) h = ap (λ z. x ∷ z) (take_first xs count k (omega (arith, h)))

pub lent_before : {A : Type 0} (xs : List A) (first count k : ℕ) → first + count ≤ k → take count (drop first (take k xs)) ≡ segment first count xs
lent_before xs zero count k h = take_first xs count k (omega (arith, h))
lent_before [] (suc first) count zero h = refl
lent_before [] (suc first) count (suc k) h = refl
lent_before (x ∷ xs) (suc first) count zero h = absurd (omega (arith, h))
lent_before (x ∷ xs) (suc first) count (suc k) h = lent_before xs first count k (omega (arith, h))

pub joined_before : {S : Type 0} (o : Ops S) (xs back lent : List S) (parent first count : ℕ) (goes_on : Bool) (l x y : S) → back ≡ drop parent xs → lent ≡ segment first count xs → slice_get xs parent ≡ Some l → y ≡ get_or back 0 y
    → x ≡ o.join y lent goes_on → take parent xs ++ slice_set back 0 x ≡ slice_set xs parent (o.join l (segment first count xs) goes_on)
joined_before o xs back lent parent first count goes_on l x y is_back is_lent e is_y is_x =
    let its : y ≡ l = is_y ∙ (ap (λ z. get_or z 0 y) is_back ∙ get_or_from_slice_get (drop parent xs) 0 l y (get_back xs parent l e)) in
    ap (λ z. take parent xs ++ slice_set z 0 x) is_back ∙ (set_back xs parent x ∙ ap (slice_set xs parent) (is_x ∙ (λ i. o.join (its i) (is_lent i) goes_on)))

pub is_own : {S : Type 0} (o : Ops S) (xs back lent : List S) (parent first count : ℕ) (d : S) → parent < length xs → back ≡ drop parent xs → lent ≡ segment first count xs → ((l : S) → slice_get xs parent ≡ Some l → o.born l (segment first count xs)) → o.born (get_or back 0 d) lent
is_own o xs back lent parent first count d less is_back is_lent born =
    let e = slice_get-get_or xs parent d less in
    let same : get_or back 0 d ≡ get_or xs parent d = ap (λ z. get_or z 0 d) is_back ∙ get_or_from_slice_get (drop parent xs) 0 (get_or xs parent d) d (get_back xs parent (get_or xs parent d) e) in
    subst (λ z. o.born (get_or back 0 d) z) (sym is_lent) (subst (λ z. o.born z (segment first count xs)) (sym same) (born (get_or xs parent d) e))
