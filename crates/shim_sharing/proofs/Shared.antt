-- Where no variable is taken by reference twice, no two branches clash.
use Rattle.std.proofs.Common.{◌≡◌, ◌∙◌, ℕ, ◌+◌, ◌<◌, zero, suc, List, [], ◌∷◌, None, Bool, true, false, ◌||◌, ◌&&◌, refl, sym, ap, arith}
use Rattle.shim_units.specs.Captures.{Captures, is_reference}
use Rattle.shim_units.specs.Usages.{shared}
use Rattle.shim_sharing.specs.Sharing.{if_true, least_below, common, clash_at, clash_with, clash_from}
use Rattle.shim_sharing.proofs.Rule.{both_none, if_not_true, left_true, right_true, none_below, none_clash}
use Rattle.shim_base.proofs.Facts.{false_unless}

-- none of these takes the variable by reference
NoneTakes : ℕ → List Captures → Type 0
NoneTakes x [] = Unit {0}
NoneTakes x (t ∷ ts) = (is_reference (t x) ≡ true → ⊥) × NoneTakes x ts

left_false : (a b : Bool) → (a || b) ≡ false → a ≡ false
left_false true b e = e
left_false false b e = refl

right_false : (a b : Bool) → (a || b) ≡ false → b ≡ false
right_false true b e = cc
right_false false b e = e

or_true : (a : Bool) → (a || true) ≡ true
or_true true = refl
or_true false = refl

and_true : (a : Bool) → (a && true) ≡ false → a ≡ true → ⊥
and_true true e t = cc
and_true false e t = cc

none_takes : (x : ℕ) (ts : List Captures) → shared x true ts ≡ false → NoneTakes x ts
unfolding NoneTakes
none_takes x [] e = tt
none_takes x (t ∷ ts) e =
    let b : Bool = is_reference (t x) in (
      and_true b (left_false (b && true) (shared x (b || true) ts) e),
      none_takes x ts (sym (ap (λ c. shared x c ts) (or_true b)) ∙ right_false (b && true) (shared x (b || true) ts) e),
    )

unshared : (x : ℕ) (c : Bool) (ts : List Captures) → NoneTakes x ts → shared x c ts ≡ false
unfolding NoneTakes
unshared x c [] n = refl
unshared x c (t ∷ ts) n =
    let e : is_reference (t x) ≡ false = false_unless (is_reference (t x)) n.0 in
    ap (λ b. (b && c) || shared x (b || c) ts) e ∙ unshared x c ts n.1

-- of the first and those after it
behind_taken : (x : ℕ) (b : Bool) (ts : List Captures) → ((b && false) || shared x (b || false) ts) ≡ false → b ≡ true → NoneTakes x ts
behind_taken x true ts e t = none_takes x ts e
behind_taken x false ts e t = cc

behind_unshared : (x : ℕ) (b : Bool) (ts : List Captures) → ((b && false) || shared x (b || false) ts) ≡ false → shared x false ts ≡ false
behind_unshared x true ts e = unshared x false ts (none_takes x ts e)
behind_unshared x false ts e = e

no_least : (n : ℕ) (p : ℕ → Bool) → ((x : ℕ) → x < n → p x ≡ true → ⊥) → least_below n p ≡ None
no_least zero p f = refl
no_least (suc n) p f = both_none (least_below n p) (if_true n (p n)) (no_least n p (λ x lt. f x (omega arith))) (if_not_true n (p n) (f n (omega arith)))

no_clash_with : (n i j : ℕ) (s : Captures) (ts : List Captures) → ((x : ℕ) → x < n → is_reference (s x) ≡ true → NoneTakes x ts) → clash_with n i s j ts ≡ None
unfolding NoneTakes
no_clash_with n i j s [] f = refl
no_clash_with n i j s (t ∷ ts) f =
    both_none (clash_at i j (common n s t)) (clash_with n i s (j + 1) ts)
    (none_clash i j (common n s t) (no_least n (λ x. is_reference (s x) && is_reference (t x))
    (λ x lt e. (f x lt (left_true (is_reference (s x)) (is_reference (t x)) e)).0 (right_true (is_reference (s x)) (is_reference (t x)) e))))
    (no_clash_with n i (j + 1) s ts (λ x lt e. (f x lt e).1))

no_clash_from : (n i : ℕ) (ts : List Captures) → ((x : ℕ) → x < n → shared x false ts ≡ false) → clash_from n i ts ≡ None
no_clash_from n i [] f = refl
no_clash_from n i (t ∷ ts) f =
    both_none (clash_with n i t (i + 1) ts) (clash_from n (i + 1) ts)
    (no_clash_with n i (i + 1) t ts (λ x lt. behind_taken x (is_reference (t x)) ts (f x lt)))
    (no_clash_from n (i + 1) ts (λ x lt. behind_unshared x (is_reference (t x)) ts (f x lt)))

pub none_shared : (n : ℕ) (ts : List Captures) → least_below n (λ x. shared x false ts) ≡ None → clash_from n 0 ts ≡ None
none_shared n ts none = no_clash_from n 0 ts (λ x lt. false_unless (shared x false ts) (none_below n (λ y. shared y false ts) none x lt))
