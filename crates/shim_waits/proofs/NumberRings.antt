-- Numbers that are passed until one comes again, and the paths of a ring.
use Rattle.std.proofs.Common.{◌≡◌, ℕ, zero, suc, ◌+◌, ◌-◌, replicate, ◌<◌, ◌≤◌, Bool, true, false, ◌||◌, Some, List, [], ◌∷◌, ◌++◌, inl, inr, cond, drop, get_or, length, map, refl, sym, ap, subst, ◌∙◌, arith}
use Rattle.std.specs.Prelude.{slice_get, slice_set}
use Rattle.std.proofs.lemmas.Bool.Decides.{eqb_tells}
use Rattle.std.proofs.lemmas.List.{append_assoc, drop_more, get_or_append_left, get_or_push, get_or-map, get_or-set_other, get_or-set_same, get_or-replicate, get_or_default, length-append}
use Rattle.std.proofs.lemmas.Option.{slice_get-get_or}
use Rattle.shim_base.specs.Paths.{Path}
use Rattle.shim_waits.specs.Rings.{was_passed, numbers_since, from_number, number_ring, backwards, AllBelow, path_of_wait}
use Rattle.shim_waits.specs.declared.explained.Wait.{Wait}

backwards_within : (n : ℕ) (xs ys : List ℕ) → n ≤ length xs → backwards n (xs ++ ys) ≡ backwards n xs
backwards_within zero xs ys h = refl
backwards_within (suc n) xs ys h = λ i. get_or_append_left xs ys 0 n (omega (arith, h)) i ∷ backwards_within n xs ys (omega (arith, h)) i

one_longer : (xs : List ℕ) (x : ℕ) → length (xs ++ x ∷ []) ≡ suc (length xs)
one_longer xs x = let w = length-append xs (x ∷ []) in omega (arith, w)

pub backwards_push : (xs : List ℕ) (x : ℕ) → backwards (length (xs ++ x ∷ [])) (xs ++ x ∷ []) ≡ x ∷ backwards (length xs) xs
backwards_push xs x =
    ap (λ n. backwards n (xs ++ x ∷ [])) (one_longer xs x)
    ∙ (λ i. get_or_push xs x 0 (length xs) refl i ∷ backwards_within (length xs) xs (x ∷ []) (omega arith) i)

-- ---- how one goes on

left : (n i : ℕ) → i < n → n - i ≡ suc (n - (i + 1))
left n i h = omega (arith, h)

pub comes_again : (next passed : List ℕ) (n turn at : ℕ) → turn < n → was_passed at passed ≡ true → number_ring (n - turn) next passed at ≡ number_ring n next [] 0 → numbers_since at passed [] ≡ number_ring n next [] 0
comes_again next passed n turn at h there rest =
    sym (ap (λ k. number_ring k next passed at) (left n turn h)
    ∙ ap (λ b. cond b (numbers_since at passed []) (from_number (number_ring (n - (turn + 1)) next (at ∷ passed)) (slice_get next at))) there) ∙ rest

pub goes_on : (next passed more : List ℕ) (n turn at to : ℕ) → turn < n → was_passed at passed ≡ false → slice_get next at ≡ Some to → more ≡ at ∷ passed → number_ring (n - turn) next passed at ≡ number_ring n next [] 0 → number_ring (n - (turn + 1)) next more to ≡ number_ring n next [] 0
goes_on next passed more n turn at to h there leads is rest =
    ap (λ z. number_ring (n - (turn + 1)) next z to) is
    ∙ (sym (ap (λ k. number_ring k next passed at) (left n turn h)
    ∙ (ap (λ b. cond b (numbers_since at passed []) (from_number (number_ring (n - (turn + 1)) next (at ∷ passed)) (slice_get next at))) there
    ∙ ap (from_number (number_ring (n - (turn + 1)) next (at ∷ passed))) leads)) ∙ rest)

no_turn : (n turn : ℕ) → n ≤ turn → n - turn ≡ 0
no_turn n turn h = omega (arith, h)

pub ends : (next passed : List ℕ) (n turn at : ℕ) → n ≤ turn → number_ring (n - turn) next passed at ≡ number_ring n next [] 0 → numbers_since at passed [] ≡ number_ring n next [] 0
ends next passed n turn at h rest = sym (ap (λ k. number_ring k next passed at) (no_turn n turn h)) ∙ rest

-- each that was passed is marked
pub marks_one : (seen : List Bool) (passed more : List ℕ) (n at : ℕ) → length seen ≡ n → at < n → more ≡ at ∷ passed → ((j : ℕ) → j < n → get_or seen j false ≡ was_passed j passed) → (j : ℕ) → j < n → get_or (slice_set seen at true) j false ≡ was_passed j more
marks_one seen passed more n at long inside is marked j below = elim (eqb_tells at j) [
  | inl e ↦ ap (λ k. get_or (slice_set seen at true) k false) (sym e.1) ∙ (get_or-set_same seen at true false (omega (arith, long, inside)) ∙ sym (ap (was_passed j) is ∙ ap (λ b. b || was_passed j passed) e.0))
  | inr e ↦ get_or-set_other seen at j true false (λ w. e.1 (sym w)) ∙ (marked j below ∙ sym (ap (was_passed j) is ∙ ap (λ b. b || was_passed j passed) e.0))
]

-- one more that is below
push_below : (n : ℕ) (xs : List ℕ) (x : ℕ) → AllBelow n xs → x < n → AllBelow n (xs ++ x ∷ [])
push_below n [] x all h zero i e = subst (λ z. z < n) (some_same x i e) h
  where
    some_same : (a b : ℕ) → Some a ≡ Some b → a ≡ b
    some_same a b w = cc
push_below n [] x all h (suc place) i e = absurd (cc)
push_below n (y ∷ xs) x all h zero i e = all zero i e
push_below n (y ∷ xs) x all h (suc place) i e = push_below n xs x (λ p. all (suc p)) h place i e

pub one_below : (n : ℕ) (xs ys : List ℕ) (x : ℕ) → ys ≡ xs ++ x ∷ [] → AllBelow n xs → x < n → AllBelow n ys
one_below n xs ys x is all h = subst (AllBelow n) (sym is) (push_below n xs x all h)

pub at_below : (n : ℕ) (xs : List ℕ) (i x : ℕ) → AllBelow n xs → i < length xs → x ≡ get_or xs i x → x < n
at_below n xs i x all h is = all i x (slice_get-get_or xs i x h ∙ ap Some (sym is))

pub leads_to : (xs : List ℕ) (i x : ℕ) → i < length xs → x ≡ get_or xs i x → slice_get xs i ≡ Some x
leads_to xs i x h is = slice_get-get_or xs i x h ∙ ap Some (sym is)

-- ---- paths

pub path_there : (ws : List Wait) (i : ℕ) (w : Wait) → i < length ws → w ≡ get_or ws i w → path_of_wait ws i ≡ w.path
path_there ws i w h is = get_or-map (λ v. v.path) ws i w [] h ∙ ap (λ v. v.path) (sym is)

pub push_path : (ws : List Wait) (is : List ℕ) (i : ℕ) (w : Wait) (done more all : List Path) → AllBelow (length ws) is → i < length is → w ≡ get_or ws (get_or is i 0) w → more ≡ done ++ w.path ∷ []
    → done ++ map (path_of_wait ws) (drop i is) ≡ all → more ++ map (path_of_wait ws) (drop (i + 1) is) ≡ all
push_path ws is i w done more all below h there e rest =
    let inside = below i (get_or is i 0) (slice_get-get_or is i 0 h) in
    ap (λ z. z ++ map (path_of_wait ws) (drop (i + 1) is)) e
    ∙ (append_assoc done (w.path ∷ []) (map (path_of_wait ws) (drop (i + 1) is))
    ∙ (ap (λ p. done ++ p ∷ map (path_of_wait ws) (drop (i + 1) is)) (sym (path_there ws (get_or is i 0) w inside there))
    ∙ (ap (λ z. done ++ map (path_of_wait ws) z) (sym (drop_more is i 0 h)) ∙ rest)))

-- ---- what holds of the marks and of what was passed

pub there : (seen : List Bool) (at : ℕ) (b c : Bool) {p : Bool} → b ≡ get_or seen at b → b ≡ c → get_or seen at false ≡ p → at < length seen → p ≡ c
there seen at b c is e marked h = sym marked ∙ (get_or_default seen at false b h ∙ (sym is ∙ e))

pub same_read : (next : List ℕ) (at : ℕ) → at < length next → get_or next at 0 ≡ get_or next at (get_or next at 0)
same_read next at h = get_or_default next at 0 (get_or next at 0) h

pub pushed_last : (passed more : List ℕ) (at : ℕ) → more ≡ passed ++ at ∷ [] → backwards (length more) more ≡ at ∷ backwards (length passed) passed
pushed_last passed more at is = ap (λ z. backwards (length z) z) is ∙ backwards_push passed at

all_left : (n : ℕ) → n - 0 ≡ n
all_left n = omega arith

pub none_passed : (next passed : List ℕ) → passed ≡ [] → number_ring (length next - 0) next (backwards (length passed) passed) 0 ≡ number_ring (length next) next [] 0
none_passed next passed none = ap (λ k. number_ring k next (backwards (length passed) passed) 0) (all_left (length next)) ∙ ap (λ z. number_ring (length next) next (backwards (length z) z) 0) none

pub none_below : (n : ℕ) (passed : List ℕ) → passed ≡ [] → AllBelow n passed
none_below n passed none = subst (AllBelow n) (sym none) (λ place i e. absurd (let w = e in cc))

pub none_marked : (seen : List Bool) (passed : List ℕ) (n : ℕ) → seen ≡ replicate n false → passed ≡ [] → (j : ℕ) → j < n → get_or seen j false ≡ was_passed j (backwards (length passed) passed)
none_marked seen passed n are none j h = ap (λ z. get_or z j false) are ∙ (get_or-replicate n j false false h ∙ sym (ap (λ z. was_passed j (backwards (length z) z)) none))
