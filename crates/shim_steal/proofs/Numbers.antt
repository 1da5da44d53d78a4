-- Pieces whose numbers go on by one.
use Rattle.std.proofs.Common.{◌≡◌, ◌⊎◌, inl, inr, ⊎_elim, ℕ, zero, suc, ◌+◌, ◌<◌, ◌≤◌, List, [], ◌∷◌, ◌++◌, length, refl, sym, ap, ◌∙◌, subst, arith}
use mathlib.Core.Option.{some, some-injective, some-ne-none}
use lib.ListN.{get_elem?}
use Rattle.shim_steal.specs.Counting.{times, numbered, IsPart}
use Rattle.shim_base.specs.Lists.{one_at, total, IsAmong}
use Rattle.shim_steal.proofs.Lists.{at-among, head_same, tail_same, not_empty}

module _ {T : Type 0} where
  pub numbered-length : (n : ℕ) (xs : List T) → length (numbered n xs) ≡ length xs
  numbered-length n [] = refl
  numbered-length n (x ∷ xs) = ap suc (numbered-length (n + 1) xs)

  -- the piece at a place has its number, and the value at that place
  pub numbered-at : (n : ℕ) (xs : List T) (k : ℕ) (p : ℕ × T) → get_elem? (numbered n xs) k ≡ some p → (p.0 ≡ n + k) × (get_elem? xs k ≡ some p.1)
  numbered-at n [] k p e = absurd (some-ne-none p (sym e))
  numbered-at n (x ∷ xs) zero p e = let is = some-injective (n, x) p e in ((let z : n ≡ p.0 = ap (λ q. q.0) is in omega arith), ap (λ q. some q.1) is)
  numbered-at n (x ∷ xs) (suc k) p e = let r = numbered-at (n + 1) xs k p e in ((let z = r.0 in omega arith), r.1)

  pub among-at : (n : ℕ) (xs : List T) (p : ℕ × T) → IsAmong p (numbered n xs) → (k : ℕ) × (p.0 ≡ n + k) × (get_elem? xs k ≡ some p.1)
  among-at n [] p h = absurd h
  among-at n (x ∷ xs) p h = ⊎_elim (λ (is : p ≡ (n, x)). (0, (let z : p.0 ≡ n = ap (λ q. q.0) is in omega arith), ap (λ q. some q.1) (sym is))) (λ t. let r = among-at (n + 1) xs p t in (suc r.0, (let z = r.1 in omega arith), r.2)) h

  pub at-numbered : (n : ℕ) (xs : List T) (k : ℕ) (p : ℕ × T) → p.0 ≡ n + k → get_elem? xs k ≡ some p.1 → IsAmong p (numbered n xs)
  at-numbered n [] k p is e = absurd (some-ne-none p.1 (sym e))
  at-numbered n (x ∷ xs) zero p is e = let same : p.0 ≡ n = omega arith in let value = sym (some-injective x p.1 e) in inl (λ i. (same i, value i))
  at-numbered n (x ∷ xs) (suc k) p is e = inr (at-numbered (n + 1) xs k p (omega arith) e)

  -- no number stands twice
  none-below : (n m : ℕ) (xs : List T) → n < m → times n (numbered m xs) ≡ 0
  none-below n m [] h = refl
  none-below n m (x ∷ xs) h = let r = none-below n (m + 1) xs (omega arith) in omega arith

  pub numbered-once : (n m : ℕ) (xs : List T) → times n (numbered m xs) ≤ 1
  numbered-once n m [] = omega arith
  numbered-once n m (x ∷ xs) = let r = numbered-once n (m + 1) xs in let z : n < m + 1 → times n (numbered (m + 1) xs) ≡ 0 = none-below n (m + 1) xs in ⊎_elim (λ (low : n < m + 1). let e = z low in omega arith) (λ (high : m < n). omega arith) (by n m)
    where
      by : (a b : ℕ) → (a < b + 1) ⊎ (b < a)
      by zero b = inl (omega arith)
      by (suc a) zero = inr (omega arith)
      by (suc a) (suc b) = ⊎_elim (λ (h : a < b + 1). inl (omega arith)) (λ (h : b < a). inr (omega arith)) (by a b)

  -- the first pieces have lower numbers than those after them
  pub numbered-split : (n : ℕ) (xs : List T) (ps qs : List (ℕ × T)) → numbered n xs ≡ ps ++ qs → ((p : ℕ × T) → IsAmong p ps → (n ≤ p.0) × (p.0 < n + length ps)) × ((q : ℕ × T) → IsAmong q qs → n + length ps ≤ q.0)
  numbered-split n xs [] qs e = ((λ p h. absurd h), λ q h. let r = among-at n xs q (subst (IsAmong q) (sym e) h) in let z = r.1 in omega arith)
  numbered-split n [] (p ∷ ps) qs e = absurd (not_empty p (ps ++ qs) e)
  numbered-split n (x ∷ xs) (p ∷ ps) qs e = let h = head_same (n, x) p (numbered (n + 1) xs) (ps ++ qs) e in let r = numbered-split (n + 1) xs ps qs (tail_same (n, x) p (numbered (n + 1) xs) (ps ++ qs) e) in
      ((λ u a. ⊎_elim (λ (is : u ≡ p). let z : n ≡ p.0 = ap (λ y. y.0) h in let y : u.0 ≡ p.0 = ap (λ y. y.0) is in (omega arith, omega arith)) (λ (t : IsAmong u ps). let z = r.0 u t in (omega arith, omega arith)) a), λ q a. let z = r.1 q a in omega arith)

  -- what is left where some are left out
  pub part-among : (xs ys : List (ℕ × T)) → IsPart xs ys → (p : ℕ × T) → IsAmong p xs → IsAmong p ys
  part-among xs [] is p h = subst (IsAmong p) is h
  part-among xs (y ∷ ys) is p h = ⊎_elim (λ a. inr (part-among xs ys a p h)) (λ (b : (zs : List (ℕ × T)) × (xs ≡ y ∷ zs) × IsPart zs ys). ⊎_elim (λ (e : p ≡ y). inl e) (λ (t : IsAmong p b.0). inr (part-among b.0 ys b.2 p t)) (subst (IsAmong p) b.1 h)) is

  pub part-order : (n : ℕ) (vs : List T) (xs ys zs : List (ℕ × T)) → numbered n vs ≡ ys ++ zs → IsPart xs ys → (a b : ℕ) (p q : ℕ × T) → a < b → get_elem? xs a ≡ some p → get_elem? xs b ≡ some q → p.0 < q.0
  part-order n vs xs [] zs e is a b p q less f g = absurd (some-ne-none p (sym f ∙ ap (λ l. get_elem? l a) is))
  part-order n [] xs (y ∷ ys) zs e is a b p q less f g = absurd (not_empty y (ys ++ zs) e)
  part-order n (v ∷ vs) xs (y ∷ ys) zs e is a b p q less f g = let rest = tail_same (n, v) y (numbered (n + 1) vs) (ys ++ zs) e in
      ⊎_elim (λ left. part-order (n + 1) vs xs ys zs rest left a b p q less f g)
      (λ (k : (ws : List (ℕ × T)) × (xs ≡ y ∷ ws) × IsPart ws ys). kept (λ ws part c d l f g. part-order (n + 1) vs ws ys zs rest part c d p q l f g) k.0 k.2 rest a b less (sym (ap (λ l. get_elem? l a) k.1) ∙ f) (sym (ap (λ l. get_elem? l b) k.1) ∙ g)) is
    where
      first : y.0 ≡ n
      first = sym (ap (λ z. z.0) (head_same (n, v) y (numbered (n + 1) vs) (ys ++ zs) e))

      kept : ((ws : List (ℕ × T)) → IsPart ws ys → (a b : ℕ) → a < b → get_elem? ws a ≡ some p → get_elem? ws b ≡ some q → p.0 < q.0) → (ws : List (ℕ × T)) → IsPart ws ys → numbered (n + 1) vs ≡ ys ++ zs → (a b : ℕ) → a < b → get_elem? (y ∷ ws) a ≡ some p → get_elem? (y ∷ ws) b ≡ some q → p.0 < q.0
      kept later ws part rest zero zero less f g = absurd (omega arith)
      kept later ws part rest zero (suc b) less f g = let z : y.0 ≡ p.0 = ap (λ u. u.0) (some-injective y p f) in let low = ((numbered-split (n + 1) vs ys zs rest).0 q (part-among ws ys part q (at-among ws b q g))).0 in let o = first in omega arith
      kept later ws part rest (suc a) zero less f g = absurd (omega arith)
      kept later ws part rest (suc a) (suc b) less f g = later ws part a b (omega arith) f g

  -- a number that is counted stands there
  pub times-among : (n : ℕ) (xs : List (ℕ × T)) → 0 < times n xs → (p : ℕ × T) × IsAmong p xs × (p.0 ≡ n)
  times-among n [] h = absurd (omega arith)
  times-among n (x ∷ xs) h = by (λ more. times-among n xs more) (times n xs) refl
    where
      by : (0 < times n xs → (p : ℕ × T) × IsAmong p xs × (p.0 ≡ n)) → (m : ℕ) → times n xs ≡ m → (p : ℕ × T) × IsAmong p (x ∷ xs) × (p.0 ≡ n)
      by later zero e = (x, inl refl, (let z : 0 < one_at n x.0 = omega arith in omega arith))
      by later (suc m) e = let r = later (omega arith) in (r.0, inr r.1, r.2)

  pub among-times : (xs : List (ℕ × T)) (p : ℕ × T) → IsAmong p xs → 0 < times p.0 xs
  among-times [] p h = absurd h
  among-times (x ∷ xs) p h = ⊎_elim (λ (e : p ≡ x). let z : p.0 ≡ x.0 = ap (λ y. y.0) e in omega arith) (λ t. let r = among-times xs p t in omega arith) h

pub total-some : {V : Type 0} (f : V → ℕ) (l : List V) → 0 < total f l → (j : ℕ) × (v : V) × (get_elem? l j ≡ some v) × (0 < f v)
total-some f [] h = absurd (omega arith)
total-some {V} f (x ∷ xs) h = by (λ more. total-some f xs more) (f x) refl
  where
    by : (0 < total f xs → (j : ℕ) × (v : V) × (get_elem? xs j ≡ some v) × (0 < f v)) → (m : ℕ) → f x ≡ m → (j : ℕ) × (v : V) × (get_elem? (x ∷ xs) j ≡ some v) × (0 < f v)
    by later zero e = let r = later (omega arith) in (suc r.0, r.1, r.2, r.3)
    by later (suc m) e = (0, x, refl, omega arith)
