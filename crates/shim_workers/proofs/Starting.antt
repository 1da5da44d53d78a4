-- Values that get others beside them, one after another.
use Rattle.std.proofs.Common.{◌≡◌, ℕ, zero, suc, ◌<◌, List, [], ◌∷◌, ◌++◌, length, map, slice_index_or, refl, sym, ap, ◌∙◌, append-nil, arith}
use Rattle.shim_base.proofs.Facts.{no_items}

module _ {A B : Type 0} (f : A → B) where
  map_behind : (xs : List A) (x : A) (ys : List B) → map f (xs ++ x ∷ []) ++ ys ≡ map f xs ++ f x ∷ ys
  map_behind [] x ys = refl
  map_behind (z ∷ zs) x ys = ap (λ l. f z ∷ l) (map_behind zs x ys)

  -- one more
  pub one_started : (starts more : List A) (rest after all : List B) (x : A) (b : B) → rest ≡ b ∷ after → f x ≡ b → more ≡ starts ++ x ∷ [] → map f starts ++ rest ≡ all → map f more ++ after ≡ all
  one_started starts more rest after all x b er ex em e = ap (λ m. map f m ++ after) em ∙ map_behind starts x after ∙ ap (λ y. map f starts ++ y ∷ after) ex ∙ ap (λ r. map f starts ++ r) (sym er) ∙ e

  -- none is left
  pub all_started : (starts : List A) (rest all : List B) → length rest ≡ 0 → map f starts ++ rest ≡ all → map f starts ≡ all
  all_started starts rest all none e = sym (append-nil (map f starts)) ∙ ap (λ r. map f starts ++ r) (sym (no_items rest none)) ∙ e

  pub mapped_length : (xs : List A) → length (map f xs) ≡ length xs
  mapped_length [] = refl
  mapped_length (x ∷ xs) = ap suc (mapped_length xs)

  pub mapped_at : (xs : List A) (i : ℕ) (x : A) (b : B) → i < length xs → slice_index_or (map f xs) i b ≡ f (slice_index_or xs i x)
  mapped_at [] i x b inside = absurd (omega arith)
  mapped_at (y ∷ ys) zero x b inside = refl
  mapped_at (y ∷ ys) (suc i) x b inside = mapped_at ys i x b (omega arith)
