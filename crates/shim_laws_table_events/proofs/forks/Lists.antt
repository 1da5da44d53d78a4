-- Lists in which a block was put: how long they are, and who is in them.
use Rattle.std.proofs.Common.{◌≡◌, ◌⊎◌, ◌+◌, inl, inr, ℕ, zero, suc, Some, List, [], ◌∷◌, length, slice_set, refl, ap, arith}
use Rattle.std.specs.Prelude.{slice_get}
use Rattle.shim_base.proofs.Facts.{some_same, none_some}
use Rattle.shim_records.specs.Blocks.{with_one, with_block}

one_long : {A B : Type 0} (g : ℕ) (x : A) (u : B) (ys : List A) (vs : List B) → length ys ≡ length vs → length (with_one g x ys) ≡ length (with_one g u vs)
one_long g x u [] [] h = refl
one_long g x u [] (v ∷ vs) h = absurd (omega (arith, h))
one_long g x u (y ∷ ys) [] h = absurd (omega (arith, h))
one_long zero x u (y ∷ ys) (v ∷ vs) h = h
one_long (suc g) x u (y ∷ ys) (v ∷ vs) h = ap suc (one_long g x u ys vs (omega (arith, h)))

-- two lists stay of one length, where blocks of one length are put
pub block_long : {A B : Type 0} (g : ℕ) (xs : List A) (us : List B) (ys : List A) (vs : List B) → length xs ≡ length us → length ys ≡ length vs → length (with_block g xs ys) ≡ length (with_block g us vs)
block_long g [] [] ys vs e h = h
block_long g [] (u ∷ us) ys vs e h = absurd (omega (arith, e))
block_long g (x ∷ xs) [] ys vs e h = absurd (omega (arith, e))
block_long g (x ∷ xs) (u ∷ us) ys vs e h = block_long (g + 1) xs us (with_one g x ys) (with_one g u vs) (omega (arith, e)) (one_long g x u ys vs h)

from_one : {A : Type 0} (g : ℕ) (x : A) (ys : List A) (j : ℕ) (r : A) → slice_get (with_one g x ys) j ≡ Some r → (x ≡ r) ⊎ (slice_get ys j ≡ Some r)
from_one g x [] zero r e = inl (some_same x r e)
from_one g x [] (suc j) r e = none_some r e
from_one zero x (y ∷ ys) zero r e = inl (some_same x r e)
from_one zero x (y ∷ ys) (suc j) r e = inr e
from_one (suc g) x (y ∷ ys) zero r e = inr e
from_one (suc g) x (y ∷ ys) (suc j) r e = from_one g x ys j r e

-- who is there is of the block, or was there
pub from_block : {A : Type 0} (g : ℕ) (xs ys : List A) (j : ℕ) (r : A) → slice_get (with_block g xs ys) j ≡ Some r → ((b : ℕ) × (slice_get xs b ≡ Some r)) ⊎ (slice_get ys j ≡ Some r)
from_block g [] ys j r e = inr e
from_block g (x ∷ xs) ys j r e = elim (from_block (g + 1) xs (with_one g x ys) j r e) [
  | inl w ↦ inl (suc w.0, w.1)
  | inr w ↦ elim (from_one g x ys j r w) [ inl u ↦ inl (0, ap Some u) | inr u ↦ inr u ]
]

pub from_set : {A : Type 0} (xs : List A) (i : ℕ) (y : A) (j : ℕ) (r : A) → slice_get (slice_set xs i y) j ≡ Some r → (y ≡ r) ⊎ (slice_get xs j ≡ Some r)
from_set [] i y j r e = none_some r e
from_set (x ∷ xs) zero y zero r e = inl (some_same y r e)
from_set (x ∷ xs) zero y (suc j) r e = inr e
from_set (x ∷ xs) (suc i) y zero r e = inr e
from_set (x ∷ xs) (suc i) y (suc j) r e = from_set xs i y j r e
