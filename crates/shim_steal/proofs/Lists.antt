-- What stands in a list.
use Rattle.std.proofs.Common.{◌≡◌, ◌⊎◌, inl, inr, ⊎_elim, ℕ, zero, suc, ◌+◌, ◌<◌, List, [], ◌∷◌, ◌++◌, length, get_or, map, set, refl, sym, ap, ◌∙◌, subst, arith}
use mathlib.Core.Option.{some, some-injective, some-ne-none}
use lib.ListN.{get_elem?}
use Rattle.shim_base.specs.Lists.{IsAmong}

module _ {A : Type 0} where
  pub among-left : (x : A) (xs ys : List A) → IsAmong x xs → IsAmong x (xs ++ ys)
  among-left x [] ys h = absurd h
  among-left x (z ∷ zs) ys h = ⊎_elim (λ e. inl e) (λ t. inr (among-left x zs ys t)) h

  pub among-right : (x : A) (xs ys : List A) → IsAmong x ys → IsAmong x (xs ++ ys)
  among-right x [] ys h = h
  among-right x (z ∷ zs) ys h = inr (among-right x zs ys h)

  pub among-either : (x : A) (xs ys : List A) → IsAmong x (xs ++ ys) → IsAmong x xs ⊎ IsAmong x ys
  among-either x [] ys h = inr h
  among-either x (z ∷ zs) ys h = ⊎_elim (λ e. inl (inl e)) (λ t. ⊎_elim (λ a. inl (inr a)) (λ b. inr b) (among-either x zs ys t)) h

  pub at-among : (l : List A) (i : ℕ) (a : A) → get_elem? l i ≡ some a → IsAmong a l
  at-among [] i a e = absurd (some-ne-none a (sym e))
  at-among (x ∷ xs) zero a e = inl (sym (some-injective x a e))
  at-among (x ∷ xs) (suc i) a e = inr (at-among xs i a e)

  pub at-behind : (xs ys : List A) (i : ℕ) (a : A) → get_elem? ys i ≡ some a → get_elem? (xs ++ ys) (length xs + i) ≡ some a
  at-behind [] ys i a e = subst (λ k. get_elem? ys k ≡ some a) (let z : i ≡ 0 + i = omega arith in z) e
  at-behind (x ∷ xs) ys i a e = subst (λ k. get_elem? (x ∷ xs ++ ys) k ≡ some a) (let z : suc (length xs + i) ≡ length (x ∷ xs) + i = omega arith in z) (at-behind xs ys i a e)

  -- what stands in a list with one more at its end
  pub at-end : (ls : List A) (l m : A) (i : ℕ) → get_elem? (ls ++ l ∷ []) i ≡ some m → (get_elem? ls i ≡ some m) ⊎ ((i ≡ length ls) × (l ≡ m))
  at-end [] l m zero e = inr (refl, some-injective l m e)
  at-end [] l m (suc i) e = absurd (some-ne-none m (sym e))
  at-end (x ∷ xs) l m zero e = inl e
  at-end (x ∷ xs) l m (suc i) e = ⊎_elim (λ a. inl a) (λ (b : (i ≡ length xs) × (l ≡ m)). inr (ap suc b.0, b.1)) (at-end xs l m i e)

  pub at-inside : (l : List A) (i : ℕ) (a : A) → get_elem? l i ≡ some a → i < length l
  at-inside [] i a e = absurd (some-ne-none a (sym e))
  at-inside (x ∷ xs) zero a e = omega arith
  at-inside (x ∷ xs) (suc i) a e = let r = at-inside xs i a e in omega arith

  pub at-or : (l : List A) (i : ℕ) (d : A) → i < length l → get_elem? l i ≡ some (get_or l i d)
  at-or [] i d h = absurd (omega arith)
  at-or (x ∷ xs) zero d h = refl
  at-or (x ∷ xs) (suc i) d h = at-or xs i d (omega arith)

  pub at-place : (l : List A) (i : ℕ) (a : A) → i < length l → a ≡ get_or l i a → get_elem? l i ≡ some a
  at-place l i a inside is = at-or l i a inside ∙ ap some (sym is)

  -- what f gives of each stays as it was
  pub map-same : {B : Type 0} (f : A → B) (l : List A) (i : ℕ) (a b : A) → get_elem? l i ≡ some a → f b ≡ f a → map f (set l i b) ≡ map f l
  map-same f [] i a b at is = refl
  map-same f (x ∷ xs) zero a b at is = ap (λ y. y ∷ map f xs) (is ∙ ap f (sym (some-injective x a at)))
  map-same f (x ∷ xs) (suc i) a b at is = ap (λ l. f x ∷ l) (map-same f xs i a b at is)

  pub head_same : (x y : A) (xs ys : List A) → x ∷ xs ≡ y ∷ ys → x ≡ y
  head_same x y xs ys e = cc

  pub tail_same : (x y : A) (xs ys : List A) → x ∷ xs ≡ y ∷ ys → xs ≡ ys
  tail_same x y xs ys e = cc

  pub not_empty : (x : A) (xs : List A) → [] ≡ x ∷ xs → ⊥
  not_empty x xs e = cc

  -- both parts of an empty list are empty
  pub empty-left : (xs ys : List A) → xs ++ ys ≡ [] → xs ≡ []
  empty-left [] ys e = refl
  empty-left (x ∷ xs) ys e = absurd (not_empty x (xs ++ ys) (sym e))

  pub empty-right : (xs ys : List A) → xs ++ ys ≡ [] → ys ≡ []
  empty-right [] ys e = e
  empty-right (x ∷ xs) ys e = absurd (not_empty x (xs ++ ys) (sym e))

  pub both-empty : (xs ys : List A) → xs ≡ [] → ys ≡ [] → xs ++ ys ≡ []
  both-empty xs ys e f = ap (λ l. l ++ ys) e ∙ f
